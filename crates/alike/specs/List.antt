-- The list for one event: an answer for each record.
use Rattle.std.specs.Prelude.{ℕ, ◌<◌, ◌≡◌, ◌%◌, List, Option, Some, None, get_or}
use Rattle.std.specs.Option.{option_map}
use Rattle.par.specs.declared.Node.{Node}
use Rattle.par.specs.declared.Status.TheVariants.{Waiting}
use Rattle.par.specs.Expr.{Expr}
use Rattle.par.specs.Step.{status, notices, remainder}
use Rattle.alike.specs.declared.plans.Part.{Part}
use Rattle.alike.specs.declared.entry.Entry.{Entry}
use Rattle.alike.specs.declared.plans.Rest.{Rest}
use Rattle.alike.specs.declared.plans.Rest.TheVariants.{Still, Old, New}
use Rattle.alike.specs.Closing.{Stands, Absent}
use Rattle.alike.specs.Lookup.{Looked}

-- the number, if there is one, fits in 16 bits
abbrev pub Fits : Option ℕ → Type 0
Fits None = Unit {0}
Fits (Some r) = r < 65536

-- the entry of an answer: of the remainder's record number the lowest 16 bits
abbrev pub entry_of : Part → Entry
entry_of p = record { notices = p.notices; status = p.status; remains = option_map (λ r. r % 65536) p.remains }

-- the answer that an entry stands for
abbrev pub part : Entry → Part
part e = record { notices = e.notices; status = e.status; remains = e.remains }

-- the entry of record r, by the answer that it stands for
abbrev pub part_of : List Entry → ℕ → Part
part_of parts r = part (get_or parts r (record { notices = 0; status = Waiting; remains = None }))

-- ---- where a remainder stands: silent's number is `still`

abbrev pub RestAt : List Node → Option ℕ → Option Rest → Option ℕ → Type 0
RestAt ns still None q = q ≡ None
RestAt ns still (Some Still) q = q ≡ still
RestAt ns still (Some (Old r)) q = q ≡ Some r
RestAt ns still (Some (New m)) q = Looked ns m q

-- ---- what the entries mean

-- the record that is e has the number q; none where no record of the file is e
pub data Placed (E : ℕ → Expr) (n : ℕ) (e : Expr) : Option ℕ → Type 0 where
  there : {q : ℕ} → Stands E n e q → Placed E n e (Some q)
  missing : Absent E n e → Placed E n e None

-- an answer is what the figures give for the expression e on the event a
pub record Right (E : ℕ → Expr) (n a : ℕ) (e : Expr) (p : Part) : Type 0 where
  pub notices_right : p.notices ≡ notices e a
  pub status_right : p.status ≡ status e a
  pub remains_right : Placed E n (remainder e a) p.remains

-- the first k entries are
abbrev pub Filled : (ℕ → Expr) → ℕ → ℕ → List Entry → ℕ → Type 0
Filled E n a parts k = (r : ℕ) → r < k → Right E n a (E r) (part_of parts r)
