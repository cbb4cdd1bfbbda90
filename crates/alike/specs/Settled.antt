-- What the judge keeps from event to event: the verdict on the events so far, and how one event brings it on.
use Rattle.std.specs.Prelude.{ℕ, ◌<◌, ◌≡◌, ◌≢◌, ◌⊎◌, List, Bool, true, false, Some, None, length}
use Rattle.par.specs.declared.Node.{Node}
use Rattle.par.specs.declared.Node.TheVariants.{Event}
use Rattle.par.specs.Expr.{Expr}
use Rattle.alike.specs.declared.pair.Pair.{Pair}
use Rattle.alike.specs.declared.plans.Part.{Part}
use Rattle.alike.specs.declared.entry.Entry.{Entry}
use Rattle.alike.specs.Closing.{Closed, Fault}
use Rattle.alike.specs.Tables.{record_of, expressions, left_in, right_in}
use Rattle.alike.specs.List.{part_of}
use Rattle.alike.specs.Verdict.{Outcome, outcome}

-- one of the first m pairs is (p, q), in that order
abbrev pub ListedRow : (ℕ → ℕ) → (ℕ → ℕ) → ℕ → ℕ → ℕ → Type 0
ListedRow left right m p q = (i : ℕ) × (i < m) × (left i ≡ p) × (right i ≡ q)

-- ---- the verdict on some of the events

module _ (E : ℕ → Expr) (n : ℕ) (left right : ℕ → ℕ) (listed : ℕ) where
  -- pair i is closed, has the fault k, on the event a
  abbrev pub RowClosed : ℕ → ℕ → Type 0
  RowClosed i a = Closed E n (ListedRow left right listed) (E (left i)) (E (right i)) a

  abbrev pub RowFault : ℕ → ℕ → ℕ → Type 0
  RowFault i a k = Fault E n (ListedRow left right listed) (E (left i)) (E (right i)) a k

  -- pair i has the fault k at an event below m, and none at an earlier event
  pub record FirstAt (m i k : ℕ) : Type 0 where
    pub inside : i < listed
    pub event : ℕ
    pub below : event < m
    pub fault : RowFault i event k
    pub earlier : (b : ℕ) → b < event → RowClosed i b

  -- the verdict on the events below m: the number 0 behind the last pair, or the first fault of `pair`, all pairs before it being closed
  pub record Settled (m number pair : ℕ) : Type 0 where
    pub before : (i b : ℕ) → i < pair → b < m → RowClosed i b
    pub here : ((number ≡ 0) × (pair ≡ listed)) ⊎ FirstAt m pair number

-- ---- the same over the records ns and the pairs ps

abbrev pub Standing : List Node → List Pair → ℕ → Outcome → Type 0
Standing ns ps a best = Settled (expressions ns) (length ns) (left_in ps) (right_in ps) (length ps) a best.number best.pair

-- ---- one event

-- the first closing condition that two entries of its list fail; 0 where they meet all
pub data PartFault (Listed : ℕ → ℕ → Type 0) (p q : Part) : ℕ → Type 0 where
  notices_apart : p.notices ≢ q.notices → PartFault Listed p q 10
  statuses_apart : p.notices ≡ q.notices → p.status ≢ q.status → PartFault Listed p q 11
  one_missing : p.notices ≡ q.notices → p.status ≡ q.status → (p.remains ≡ None) ⊎ (q.remains ≡ None) → PartFault Listed p q 12
  unlisted : p.notices ≡ q.notices → p.status ≡ q.status → {i j : ℕ} → p.remains ≡ Some i → q.remains ≡ Some j
      → i ≢ j → (Listed i j → ⊥) → PartFault Listed p q 13
  all_met : p.notices ≡ q.notices → p.status ≡ q.status → {i j : ℕ} → p.remains ≡ Some i → q.remains ≡ Some j
      → (i ≡ j) ⊎ Listed i j → PartFault Listed p q 0

-- of pair i
abbrev pub RowPart : List Entry → List Pair → ℕ → ℕ → Type 0
RowPart parts ps i k =
    PartFault (ListedRow (left_in ps) (right_in ps) (length ps)) (part_of parts (left_in ps i)) (part_of parts (right_in ps i)) k

-- the first pair before the best fault's that fails takes its place
pub data Scanned (Fails : ℕ → ℕ → Type 0) (best : Outcome) : Outcome → Type 0 where
  as_before : ((j : ℕ) → j < best.pair → Fails j 0) → Scanned Fails best best
  better : {i k : ℕ} → i < best.pair → ((j : ℕ) → j < i → Fails j 0) → Fails i k → k ≢ 0 → Scanned Fails best (outcome k i)

-- ---- events that no record names

-- of the first n records
abbrev pub NoneNames : List Node → ℕ → ℕ → Type 0
NoneNames ns n a = (r : ℕ) → r < n → record_of ns r ≡ Event a → ⊥

pub data Named (ns : List Node) (n a : ℕ) : Bool → Type 0 where
  named : {r : ℕ} → r < n → record_of ns r ≡ Event a → Named ns n a true
  unnamed : NoneNames ns n a → Named ns n a false

-- true: one of the events below m is such
pub data Quiet (ns : List Node) (m : ℕ) : Bool → Type 0 where
  not_yet : Quiet ns m false
  passed : {b : ℕ} → b < m → NoneNames ns (length ns) b → Quiet ns m true
