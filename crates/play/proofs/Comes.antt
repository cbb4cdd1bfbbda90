-- The events in play that came, node by node; and that a table of them, made once for every event, serves at any time.
use Prim.Native.Nat.{ℕ, zero, suc, ◌≤◌, ◌<◌, ◌^◌}
use mathlib.Core.Path.{◌≡◌, refl, sym, ◌∙◌}
use mathlib.Core.Logic.{◌⊎◌, inl, inr}
use mathlib.Core.Bool.{Bool, true, false, cond, ◌&&◌}
use mathlib.Core.List.{List}
use native.Mathlib.Nat.{eq-or-lt_of_le}
use native.Mathlib.Omega.{arith}
use lib.Dec.{eqb}
use Rattle.play.specs.Mirror.Masks.{bit, one, with, both}
use Rattle.play.specs.Mirror.Nodes.{first_at}
use Rattle.play.specs.Mirror.Step.{met_at, comes}
use Rattle.play.proofs.Digits.{and_false, bit_none, bit_both, with_other, with_self, same_bits, none_zero, bits_small}

module _ (F : List ℕ) (L a A : ℕ) where
  chosen : (t : Bool) (b q : ℕ) → (q ≡ b → ⊥) → bit (cond t (with (comes F L a A b) (one b)) (comes F L a A b)) q ≡ bit (comes F L a A b) q
  chosen true b q h = with_other (comes F L a A b) b q h
  chosen false b q h = refl

  pub comes_above : (b q : ℕ) → b ≤ q → bit (comes F L a A b) q ≡ false
  unfolding comes
  comes_above zero q h = bit_none q
  comes_above (suc b) q h = chosen (met_at F L a A b) b q (λ (e : q ≡ b). omega arith) ∙ comes_above b q (omega arith)

  own : (t : Bool) (b : ℕ) → bit (cond t (with (comes F L a A b) (one b)) (comes F L a A b)) b ≡ t
  own true b = with_self (comes F L a A b) b
  own false b = comes_above b b (omega arith)

  pub comes_below : (b q : ℕ) → q < b → bit (comes F L a A b) q ≡ met_at F L a A q
  unfolding comes
  comes_below zero q h = absurd (omega arith)
  comes_below (suc b) q h = go (comes_below b q) (eq-or-lt_of_le h)
    where
      go : (q < b → bit (comes F L a A b) q ≡ met_at F L a A q) → (suc q ≡ suc b) ⊎ (suc q < suc b) → bit (comes F L a A (suc b)) q ≡ met_at F L a A q
      go ih (inl e) = let i : q ≡ b = omega arith in rw i (own (met_at F L a A b) b)
      go ih (inr l) = chosen (met_at F L a A b) b q (λ (e : q ≡ b). omega arith) ∙ ih (omega arith)

  pub comes_small : comes F L a A 64 < 2 ^ 64
  comes_small = bits_small (comes F L a A 64) (λ q h. comes_above 64 q h)

  -- none out of play comes
  pub still : (q : ℕ) → bit A q ≡ false → met_at F L a A q ≡ false
  still q h = rw (h, and_false (eqb (first_at F q) a)) (and_false (bit L q))

-- where none is in play none comes
pub comes_none : (F : List ℕ) (L a : ℕ) → comes F L a 0 64 ≡ 0
comes_none F L a = none_zero 64 (comes F L a 0 64) (comes_small F L a 0) (λ q l. comes_below F L a 0 64 q l ∙ still F L a 0 q (bit_none q))

-- ---- by a table: with every event in play, and then those that are

pub met_by_table : (F : List ℕ) (L a A : ℕ) → both A (comes F L a L 64) ≡ comes F L a A 64
met_by_table F L a A =
    same_bits 64 (both A (comes F L a L 64)) (comes F L a A 64) small (comes_small F L a A)
    (λ q l. bit_both A (comes F L a L 64) q ∙ rw (comes_below F L a L 64 q l) (played (bit A q) (bit L q) (eqb (first_at F q) a))
    ∙ sym (comes_below F L a A 64 q l))
  where
    played : (p l e : Bool) → p && (l && (e && l)) ≡ l && (e && p)
    played true true true = refl
    played true true false = refl
    played true false e = refl
    played false true true = refl
    played false true false = refl
    played false false e = refl

    small : both A (comes F L a L 64) < 2 ^ 64
    small =
        bits_small (both A (comes F L a L 64))
        (λ q h. bit_both A (comes F L a L 64) q ∙ rw (comes_above F L a L 64 q h) (and_false (bit A q)))
