-- Reading a file from the front, record by record: one definition for every kind of file, over the number that a record's body gets.
use Rattle.std.specs.Prelude.{ℕ, zero, suc, ◌≡◌, List, [], ◌∷◌, ◌++◌, Result, Ok, Err, cond, length, drop, eqb}
use Rattle.records.specs.declared.Contents.{Contents}
use Rattle.records.specs.declared.Next.{Next}
use Rattle.records.specs.declared.Next.TheVariants.{End, Passed, Record}
use Rattle.records.specs.declared.refusal.Refusal.{Refusal}
use Rattle.records.specs.Refusals.{number_of}
use Rattle.records.specs.Next.{next_at}

-- what reading finds: the number, the place of the fault or of the end, and the places of the records before it
pub record Found : Type 0 where
  pub number : ℕ
  pub place : ℕ
  pub places : List ℕ

abbrev pub found : ℕ → ℕ → List ℕ → Found
found n p ps = record { number = n; place = p; places = ps }

-- one turn at pos, behind the records at ps: stop with a number, go past what does not count, or go on behind one record more
pub data Turn : Type 0 where
  stop : ℕ → Turn
  past : ℕ → Turn
  on : ℕ → Turn

-- by what stands there, and the number that the record's body gets (0: none)
abbrev pub turn_by : Result Next Refusal → ℕ → ℕ → Turn
turn_by (Ok End) count body = stop (cond (eqb count 0) 1 0)
turn_by (Err r) count body = stop (number_of r)
turn_by (Ok (Passed next)) count body = past next
turn_by (Ok (Record next)) count body = cond (eqb body 0) (on next) (stop body)

module _ (s : List ℕ) (contents : Contents) (body : ℕ → List ℕ → ℕ) where
  unfoldable pub turn : ℕ → List ℕ → Turn
  turn pos ps = turn_by (next_at s contents pos (length ps)) (length ps) (body pos ps)

-- with fuel for one turn more than there are bytes, so that it never runs out
unfoldable pub follow : ℕ → List ℕ → Turn → (ℕ → List ℕ → Found) → Found
follow pos ps (stop n) k = found n pos ps
follow pos ps (past next) k = k next ps
follow pos ps (on next) k = k next (ps ++ (pos ∷ []))

unfoldable pub walk : (ℕ → List ℕ → Turn) → ℕ → ℕ → List ℕ → Found
walk turns zero pos ps = found 2 pos ps
walk turns (suc fuel) pos ps = follow pos ps (turns pos ps) (walk turns fuel)

unfoldable pub walked : (ℕ → List ℕ → Turn) → ℕ → Found
walked turns size = walk turns (suc size) 0 []

-- what code that reads a file into a lent table answers: what was found, and in the table the places of the records, then what it held before
pub record ReadTo (f : Found) (number count place : ℕ) (was is : List ℕ) : Type 0 where
  pub number_is : number ≡ f.number
  pub count_is : count ≡ length f.places
  pub place_is : place ≡ f.place
  pub table_is : is ≡ f.places ++ drop (length f.places) was
