-- A table of places as reading leaves it: its first entries are the places found, and no other table would do.
-- `records_ready`: what those who go on with the records of an accepted file ask of the table.
use Prim.Native.Nat.{ℕ, ◌≤◌}
use mathlib.Core.Path.{◌≡◌, sym, ap, ◌∙◌}
use mathlib.Core.List.{List}
use native.Mathlib.Omega.{arith}
use lib.ListN.{length, take, drop, length-append}
use lib.Seq.{take-append_seam}
use Rattle.records.specs.Walk.{Found, ReadTo}
use Rattle.files.specs.Reading.{reading}
use Rattle.files.specs.Rule.{node_in, Earlier}
use Rattle.files.proofs.Accepted.{accepted_some, few, read_file}

module _ {f : Found} {number count place : ℕ} {was is : List ℕ} (r : ReadTo f number count place was is) where
  pub places_read : take count is ≡ f.places
  places_read = rw (r.table_is, r.count_is) (take-append_seam f.places (drop (length f.places) was))

  pub places_fit : count ≤ length is
  places_fit = let c = r.count_is in omega (arith, ap length r.table_is, length-append f.places (drop (length f.places) was))

pub readto_one : {f : Found} {number count place number' count' place' : ℕ} {was is is' : List ℕ}
    → ReadTo f number count place was is → ReadTo f number' count' place' was is'
    → (number ≡ number') × (count ≡ count') × (place ≡ place') × (is ≡ is')
readto_one p q =
    (p.number_is ∙ sym q.number_is, p.count_is ∙ sym q.count_is, p.place_is ∙ sym q.place_is, p.table_is ∙ sym q.table_is)

pub records_ready : (s : List ℕ) {number count place : ℕ} {was is : List ℕ} → ReadTo (reading s) number count place was is → number ≡ 0
    → ((1 ≤ length (take count is)) × (length (take count is) ≤ 1024)) × Earlier (node_in s (take count is)) (length (take count is))
records_ready s r e = rw (places_read r) ((accepted_some s (sym r.number_is ∙ e), few s), (read_file s).earlier)
