-- What the code's operations make of masks: the nodes up to r are a word, and those that are not in b are the word `!b`.
use Prim.Native.Nat.{ℕ, zero, suc, ◌+◌, ◌-◌, ◌/◌, ◌%◌, ◌^◌, ◌<◌}
use mathlib.Core.Path.{◌≡◌, refl, sym, ap, ◌∙◌}
use mathlib.Core.Bool.{Bool, not, ◌&&◌}
use mathlib.Core.Logic.{◌⊎◌, inl, inr}
use native.Mathlib.Nat.{eq-or-lt_of_le}
use native.Mathlib.Omega.{arith}
use lib.Bits.{bit_and}
use lib.Dec.{eqb}
use lib.Pow.{pow_pos, pow-lt}
use Rattle.play.specs.Mirror.Masks.{bit, one, less, both, below}
use Rattle.play.proofs.Digits.{by_digit, bit_zero, bit_suc, bit_both, bit_less, same_bits, both_small, less_small}
use Rattle.play.proofs.Spans.{up_below}

pub top_fits : (r : ℕ) → r < 64 → below r + one r < 2 ^ 64
unfolding below
top_fits r h = rw (up_below r) (go (eq-or-lt_of_le h))
  where
    go : (suc r ≡ 64) ⊎ (suc r < 64) → 2 ^ suc r - 1 < 2 ^ 64
    go (inl e) = rw e (omega arith)
    go (inr l) = omega (arith, pow-lt l)

bit_rest : (k b q : ℕ) → b < 2 ^ k → q < k → bit (2 ^ k - 1 - b) q ≡ not (bit b q)
bit_rest zero b q h l = absurd (omega arith)
bit_rest (suc k) b zero h l =
    let odd : (2 ^ suc k - 1 - b) % 2 ≡ 1 - b % 2 = omega (arith, pow_pos k) in
    rw (bit_zero (2 ^ suc k - 1 - b), bit_zero b, odd) (by_digit (λ d. eqb (1 - d) 1 ≡ not (eqb d 1)) refl refl (b % 2) (omega arith))
bit_rest (suc k) b (suc q) h l =
    let half : (2 ^ suc k - 1 - b) / 2 ≡ 2 ^ k - 1 - b / 2 = omega (arith, pow_pos k) in
    bit_suc (2 ^ suc k - 1 - b) q ∙ rw half (bit_rest k (b / 2) q (omega arith) (omega arith)) ∙ ap not (sym (bit_suc b q))

pub and_rest : (a b : ℕ) → a < 2 ^ 64 → b < 2 ^ 64 → bit_and a (18446744073709551615 - b) ≡ less a b
unfolding both
and_rest a b h k =
    same_bits 64 (both a (18446744073709551615 - b)) (less a b) (both_small a (18446744073709551615 - b) h) (less_small a b h)
    (λ q l. bit_both a (18446744073709551615 - b) q ∙ ap (λ (c : Bool). bit a q && c) (bit_rest 64 b q k l) ∙ sym (bit_less a b q))
