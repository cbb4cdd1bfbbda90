-- The nodes lo .. r as a mask: its digits, a mask cleared there, and whether a mask holds any of them.
use Prim.Native.Nat.{ℕ, zero, suc, ◌+◌, ◌-◌, ◌/◌, ◌%◌, ◌^◌, ◌≤◌, ◌<◌}
use mathlib.Core.Path.{◌≡◌, refl, sym, ap, ◌∙◌}
use mathlib.Core.Bool.{Bool, true, false, not, ◌&&◌}
use native.Mathlib.Omega.{arith}
use lib.Dec.{eqb, leb, ltb, leb-suc-zero, leb-suc-suc}
use lib.Pow.{pow_pos}
use borrow.Author.Tests.{eq-eqb, eqb-true, not-false, lt-ltb, le-ltb, leb-true, leb-false}
use Rattle.play.specs.Mirror.Masks.{bit, one, both, below, span, clear, hit}
use Rattle.play.proofs.Compared.{Clear}
use Rattle.play.proofs.Digits.{and_true, and_false, bit_zero, bit_suc, bit_none, bit_both, bit_less, none_zero, both_small}

-- ---- its digits

bit_below : (k q : ℕ) → bit (below k) q ≡ ltb q k
unfolding below
bit_below zero q = bit_none q ∙ sym (leb-suc-zero q)
bit_below (suc k) zero =
    let odd : (2 ^ suc k - 1) % 2 ≡ 1 = omega (arith, pow_pos k) in
    bit_zero (2 ^ suc k - 1) ∙ eq-eqb ((2 ^ suc k - 1) % 2) 1 odd ∙ sym (lt-ltb 0 (suc k) (omega arith))
bit_below (suc k) (suc q) =
    let half : (2 ^ suc k - 1) / 2 ≡ 2 ^ k - 1 = omega (arith, pow_pos k) in
    bit_suc (2 ^ suc k - 1) q ∙ rw half (bit_below k q) ∙ sym (leb-suc-suc (suc q) k)

pub up_below : (r : ℕ) → below r + one r ≡ below (suc r)
unfolding below one
up_below r = omega (arith, pow_pos r)

module _ (lo r q : ℕ) where
  bit_span : bit (span lo r) q ≡ (ltb q (suc r) && not (ltb q lo))
  unfolding span
  bit_span = rw (up_below r) (bit_less (below (suc r)) (below lo) q ∙ rw (bit_below (suc r) q, bit_below lo q))

  span_in : lo ≤ q → q ≤ r → bit (span lo r) q ≡ true
  span_in h k = bit_span ∙ rw (lt-ltb q (suc r) (omega arith), le-ltb q lo h)

  span_below : q < lo → bit (span lo r) q ≡ false
  span_below h = bit_span ∙ rw (lt-ltb q lo h) (and_false (ltb q (suc r)))

  span_above : r < q → bit (span lo r) q ≡ false
  span_above h = bit_span ∙ rw (le-ltb q (suc r) h)

-- ---- a mask cleared there

module _ (A lo r q : ℕ) where
  pub clear_in : lo ≤ q → q ≤ r → bit (clear A lo r) q ≡ false
  unfolding clear
  clear_in h k = bit_less A (span lo r) q ∙ rw (span_in lo r q h k) (and_false (bit A q))

  pub clear_below : q < lo → bit (clear A lo r) q ≡ bit A q
  unfolding clear
  clear_below h = bit_less A (span lo r) q ∙ rw (span_below lo r q h) (and_true (bit A q))

  pub clear_above : r < q → bit (clear A lo r) q ≡ bit A q
  unfolding clear
  clear_above h = bit_less A (span lo r) q ∙ rw (span_above lo r q h) (and_true (bit A q))

-- ---- whether a mask holds any

module _ (T lo r : ℕ) where
  pub hit_false : hit T lo r ≡ false → Clear T lo r
  unfolding hit
  hit_false h =
      let z : both T (span lo r) ≡ 0 = eqb-true (both T (span lo r)) 0 (not-false (eqb (both T (span lo r)) 0) h) in
      record {
        off = λ q l k.
            sym (and_true (bit T q)) ∙ ap (λ (b : Bool). bit T q && b) (sym (span_in lo r q l k)) ∙ sym (bit_both T (span lo r) q)
            ∙ ap (λ (n : ℕ). bit n q) z ∙ bit_none q;
      }

  pub hit_clear : T < 2 ^ 64 → Clear T lo r → hit T lo r ≡ false
  unfolding hit
  hit_clear small c =
      ap (λ (n : ℕ). not (eqb n 0))
      (none_zero 64 (both T (span lo r)) (both_small T (span lo r) small) (λ q k. bit_both T (span lo r) q ∙ out q (leb lo q) refl (leb q r) refl))
    where
      out : (q : ℕ) (b : Bool) → leb lo q ≡ b → (d : Bool) → leb q r ≡ d → bit T q && bit (span lo r) q ≡ false
      out q true i true j = rw (c.off q (leb-true lo q i) (leb-true q r j)) refl
      out q true i false j = rw (span_above lo r q (leb-false q r j)) (and_false (bit T q))
      out q false i d j = rw (span_below lo r q (leb-false lo q i)) (and_false (bit T q))
