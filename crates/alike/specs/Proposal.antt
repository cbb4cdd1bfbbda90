-- A proposal by the bytes of its two files: what it claims, when it is accepted, and which fault is the first.
use Rattle.std.specs.Prelude.{ℕ, ◌<◌, ◌≡◌, ◌≢◌, Bool, true, false, List, length, get_or}
use Rattle.records.specs.Fields.{word_at}
use Rattle.records.specs.Walk.{Found}
use Rattle.files.specs.Reading.{reading, reading_pairs}
use Rattle.files.specs.Rule.{expr_of}
use Rattle.alike.specs.Closing.{Closed, Fault}

-- es is the expression file, ps the pair file
abbrev pub records : List ℕ → ℕ
records es = length (reading es).places

unfoldable pub listing : List ℕ → List ℕ → Found
listing es ps = reading_pairs ps (records es)

abbrev pub pairs : List ℕ → List ℕ → ℕ
pairs es ps = length (listing es ps).places

-- the record numbers of pair i
unfoldable pub left_of : List ℕ → List ℕ → ℕ → ℕ
left_of es ps i = word_at ps (get_or (listing es ps).places i 0) 4

unfoldable pub right_of : List ℕ → List ℕ → ℕ → ℕ
right_of es ps i = word_at ps (get_or (listing es ps).places i 0) 6

-- (p, q) is a listed pair, in that order
abbrev pub Listed : List ℕ → List ℕ → ℕ → ℕ → Type 0
Listed es ps p q = (i : ℕ) × (i < pairs es ps) × (left_of es ps i ≡ p) × (right_of es ps i ≡ q)

-- pair i is closed, has the fault k, on the event a
abbrev pub ClosedAt : List ℕ → List ℕ → ℕ → ℕ → Type 0
ClosedAt es ps i a = Closed (expr_of es) (records es) (Listed es ps) (expr_of es (left_of es ps i)) (expr_of es (right_of es ps i)) a

abbrev pub FaultAt : List ℕ → List ℕ → ℕ → ℕ → ℕ → Type 0
FaultAt es ps i a k = Fault (expr_of es) (records es) (Listed es ps) (expr_of es (left_of es ps i)) (expr_of es (right_of es ps i)) a k

-- both files are read without fault, and every pair is closed on every event
pub record Accepted (es ps : List ℕ) : Type 0 where
  pub expressions_read : (reading es).number ≡ 0
  pub pairs_read : (listing es ps).number ≡ 0
  pub closed : (i a : ℕ) → i < pairs es ps → a < 256 → ClosedAt es ps i a

-- the first pair with a fault, and its first fault at the first event that has one
pub record Faulty (es ps : List ℕ) (number place : ℕ) : Type 0 where
  pub pair : ℕ
  pub inside : pair < pairs es ps
  pub event : ℕ
  pub byte : event < 256
  pub fault : FaultAt es ps pair event number
  pub events_before : (b : ℕ) → b < event → ClosedAt es ps pair b
  pub pairs_before : (j b : ℕ) → j < pair → b < 256 → ClosedAt es ps j b
  pub place_is : place ≡ get_or (listing es ps).places pair 0

-- a number, whether the faulty record is in the pair file, and its place there
pub record Verdict : Type 0 where
  pub number : ℕ
  pub in_pairs : Bool
  pub place : ℕ

abbrev pub verdict : ℕ → Bool → ℕ → Verdict
verdict n b p = record { number = n; in_pairs = b; place = p }

-- the verdict, in document 01's order; the place is that of the faulty record
pub data Says (es ps : List ℕ) : Verdict → Type 0 where
  expressions_at_fault : (reading es).number ≢ 0 → Says es ps (verdict (reading es).number false (reading es).place)
  pairs_at_fault : (reading es).number ≡ 0 → (listing es ps).number ≢ 0
      → Says es ps (verdict (listing es ps).number true (listing es ps).place)
  pair_at_fault : {number place : ℕ} → (reading es).number ≡ 0 → (listing es ps).number ≡ 0 → Faulty es ps number place
      → Says es ps (verdict number true place)
  accepted : Accepted es ps → Says es ps (verdict 0 true (length ps))
