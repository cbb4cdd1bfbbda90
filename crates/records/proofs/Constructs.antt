-- A record's construct: `node_range`, its event and its set are in range; `of_key_lem`, its key decides it; `earlier_parts`, the test of its parts.
use Prim.Native.Nat.{ℕ, ◌+◌, ◌<◌}
use mathlib.Core.Path.{◌≡◌, refl, sym}
use mathlib.Core.Logic.{◌≢◌}
use mathlib.Core.List.{List}
use mathlib.Core.Bool.{Bool, true, false, ◌&&◌, true≢false}
use native.Mathlib.Omega.{arith}
use borrow.Author.Tests.{lt-ltb, ltb-true, ltb-false, ne_eqb}
use lib.ListN.{get_or}
use lib.Dec.{ltb, eqb}
use Rattle.par.specs.declared.Node.{Node}
use Rattle.par.specs.declared.Node.TheVariants.{Silent, Event, Not, Either, Then, Repeat, Notify, Try}
use Rattle.par.specs.Nodes.{kind_field, first_field, second_field}
use Rattle.par.specs.Records.{Parts}
use Rattle.records.specs.Fields.{word_at}
use Rattle.records.specs.Constructs.{node_of, node_at, earlier_in, InRange}
use Rattle.records.proofs.Fields.{word_lt}
use Rattle.records.proofs.Tests.{cond_all}

-- ---- kinds

-- a kind that is none of 2 to 8 is silent
pub node_silent : (k b x y A : ℕ) → k ≢ 2 → k ≢ 3 → k ≢ 4 → k ≢ 5 → k ≢ 6 → k ≢ 7 → k ≢ 8 → Silent ≡ node_of k b x y A
unfolding node_of
node_silent k b x y A h2 h3 h4 h5 h6 h7 h8 = simp ne_eqb

-- of the bytes of a file, every event is a byte, and every notice set has 16 bits
pub node_range : (s : List ℕ) → ((i : ℕ) → get_or s i 0 < 256) → (p : ℕ) → InRange (node_at s p)
unfolding node_at node_of
node_range s small p =
    let k = word_at s p 2 in
    let x = word_at s p 4 in
    let y = word_at s p 6 in
    cond_all InRange (eqb k 2) (Event (get_or s (p + 4) 0)) _ (small (p + 4))
    (cond_all InRange (eqb k 3) (Not x) _ tt
    (cond_all InRange (eqb k 4) (Either x y) _ tt
    (cond_all InRange (eqb k 5) (Then x y) _ tt
    (cond_all InRange (eqb k 6) (Repeat x) _ tt
    (cond_all InRange (eqb k 7) (Notify x y) _ (word_lt s small p 6)
    (cond_all InRange (eqb k 8) (Try x y) Silent tt tt))))))

-- ---- keys

-- a record is the construct of its key: of its kind, its first part or event, and its second part or set
pub of_key_lem : (m : Node) → node_of (kind_field m) (first_field m) (first_field m) (second_field m) (second_field m) ≡ m
unfolding node_of
of_key_lem Silent = refl
of_key_lem (Event b) = refl
of_key_lem (Not x) = refl
of_key_lem (Either x y) = refl
of_key_lem (Then x y) = refl
of_key_lem (Repeat x) = refl
of_key_lem (Notify x A) = refl
of_key_lem (Try x y) = refl

-- ---- parts

and_true : (a b : Bool) → a && b ≡ true → (a ≡ true) × (b ≡ true)
and_true true b e = (refl, e)
and_true false b e = absurd (true≢false (sym e))

part_earlier : (n x : ℕ) → (ltb x n ≡ true → x < n) × (ltb x n ≡ false → x < n → ⊥)
part_earlier n x = (ltb-true x n, λ e h. omega (arith, ltb-false x n e))

parts_earlier : (n x y : ℕ) → (ltb x n && ltb y n ≡ true → (x < n) × (y < n)) × (ltb x n && ltb y n ≡ false → (x < n) × (y < n) → ⊥)
parts_earlier n x y = (
  λ e. let t = and_true (ltb x n) (ltb y n) e in (ltb-true x n t.0, ltb-true y n t.1),
  λ e h. true≢false (simp (lt-ltb x n h.0, lt-ltb y n h.1) at e),
)

pub earlier_parts : (n : ℕ) (m : Node)
    → (earlier_in n m ≡ true → Parts (λ p. p < n) m) × (earlier_in n m ≡ false → Parts (λ p. p < n) m → ⊥)
earlier_parts n Silent = (λ e. tt, λ e h. true≢false e)
earlier_parts n (Event b) = (λ e. tt, λ e h. true≢false e)
earlier_parts n (Not x) = part_earlier n x
earlier_parts n (Either x y) = parts_earlier n x y
earlier_parts n (Then x y) = parts_earlier n x y
earlier_parts n (Repeat x) = part_earlier n x
earlier_parts n (Notify x A) = part_earlier n x
earlier_parts n (Try x y) = parts_earlier n x y
