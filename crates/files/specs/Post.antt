-- What the functions say of their answers and of the tables lent to them, for files accepted and refused.
use Rattle.std.specs.Prelude.{ℕ, ◌-◌, ◌≤◌, ◌<◌, ◌≡◌, List, Result, Ok, Err, length, get_or}
use Rattle.par.specs.declared.Node.{Node}
use Rattle.par.specs.Nodes.{node_cmp}
use Rattle.records.specs.declared.refusal.Refusal.{Refusal}
use Rattle.records.specs.Refusals.{number_of, number}
use Rattle.records.specs.Constructs.{node_at}
use Rattle.records.specs.Walk.{ReadTo}
use Rattle.files.specs.declared.Reading.{Reading}
use Rattle.files.specs.declared.Rule.{Rule}
use Rattle.files.specs.Reading.{expression_body, reading, reading_pairs}
use Rattle.files.specs.Rule.{node_in, capped_size}
use Rattle.files.specs.Index.{Sorted, Located}

-- the number of the body of the record at pos, behind those at the places `at`; where it gets none, the gap of their index that it belongs in
pub data Entering (s at ix : List ℕ) (pos : ℕ) : Result ℕ Refusal → Type 0 where
  faulty : {r : Refusal} → expression_body s pos at ≡ number_of r → Entering s at ix pos (Err r)
  fits : {g : ℕ} → expression_body s pos at ≡ 0 → Located node_cmp (node_in s at) (length at) ix (length ix) (node_at s pos) (Err g)
      → Entering s at ix pos (Ok g)

-- the reading, the table of places, and the index; what lies behind the records read is as it was
pub record Indexed (s : List ℕ) (r : Reading) (was at old ix : List ℕ) : Type 0 where
  pub read : ReadTo (reading s) (number r.outcome) r.count r.place was at
  pub sorted : Sorted node_cmp (node_in s at) r.count ix r.count
  pub long : length ix ≡ length old
  pub behind : (i : ℕ) → r.count ≤ i → get_or ix i 0 ≡ get_or old i 0

-- the sizes of the first n records
pub record Sized (node : ℕ → Node) (n : ℕ) (was is : List ℕ) : Type 0 where
  pub long : length is ≡ length was
  pub filled : (r : ℕ) → r < n → get_or is r 0 ≡ capped_size node r
  pub behind : (i : ℕ) → n ≤ i → get_or is i 0 ≡ get_or was i 0

-- the reading of a rule file, with the rule's size
pub record Told (s : List ℕ) (r : Rule) : Type 0 where
  pub refused : number r.size ≡ (reading s).number
  pub place : r.place ≡ (reading s).place
  pub count : r.count ≡ length (reading s).places
  pub size : (n : ℕ) → r.size ≡ Ok n → n ≡ capped_size (node_in s (reading s).places) (length (reading s).places - 1)

pub record Paired (s : List ℕ) (records : ℕ) (r : Reading) : Type 0 where
  pub refused : number r.outcome ≡ (reading_pairs s records).number
  pub place : r.place ≡ (reading_pairs s records).place
  pub count : r.count ≡ length (reading_pairs s records).places
