-- A number by its binary digits: what the operations on masks make of a digit, and that the digits fix the number.
use Prim.Native.Nat.{ℕ, zero, suc, ◌+◌, ◌-◌, ◌/◌, ◌%◌, ◌^◌, ◌≤◌, ◌<◌, min, max}
use mathlib.Core.Path.{◌≡◌, refl, sym, ap, ◌∙◌}
use mathlib.Core.Bool.{Bool, true, false, not, ◌&&◌, ◌||◌, true≢false, false≢true}
use native.Mathlib.Nat.{pow-suc, div-div-eq-div-mul, mul_comm}
use native.Mathlib.Omega.{arith}
use lib.Dec.{eqb, eqb-zero-suc, eqb-suc-zero, eqb-suc-suc}
use lib.Bits.{bit_and, bit_or, bit_xor, differ, and_step, or_step, xor_step, and_shr, or_shr, xor_shr, and_le_l, or_lt}
use lib.Pow.{pow_pos, pow-lt}
use borrow.Author.Tests.{eq-eqb, ne_eqb}
use Rattle.play.specs.Mirror.Masks.{bit, one, with, less, both}

-- ---- tests

pub and_false : (b : Bool) → b && false ≡ false
and_false true = refl
and_false false = refl

pub and_true : (b : Bool) → b && true ≡ b
and_true true = refl
and_true false = refl

pub or_false : (b : Bool) → b || false ≡ b
or_false true = refl
or_false false = refl

pub and_left : (b d : Bool) → b && d ≡ true → b ≡ true
and_left true d i = refl
and_left false d i = absurd (false≢true i)

pub and_right : (b d : Bool) → b && d ≡ true → d ≡ true
and_right true d i = i
and_right false d i = absurd (false≢true i)

-- ---- one digit lower

pub bit_zero : (A : ℕ) → bit A 0 ≡ eqb (A % 2) 1
unfolding bit
bit_zero A = rw (div_one A)
  where
    div_one : (n : ℕ) → n / 2 ^ 0 ≡ n
    div_one n = omega arith

pub bit_suc : (A q : ℕ) → bit A (suc q) ≡ bit (A / 2) q
unfolding bit
bit_suc A q = rw (pow-suc 2 q, mul_comm (2 ^ q) 2, ← div-div-eq-div-mul A 2 (2 ^ q))

pub bit_none : (q : ℕ) → bit 0 q ≡ false
bit_none zero = bit_zero 0
bit_none (suc q) = bit_suc 0 q ∙ bit_none q

-- k digits lower
bit_shift : (k A q : ℕ) → bit (A / 2 ^ k) q ≡ bit A (k + q)
bit_shift zero A q = let e : A / 2 ^ 0 ≡ A = omega arith in rw e (ap (bit A) (omega arith))
bit_shift (suc k) A q =
    let e : A / 2 ^ suc k ≡ A / 2 / 2 ^ k = rw (pow-suc 2 k, mul_comm (2 ^ k) 2) (sym (div-div-eq-div-mul A 2 (2 ^ k))) in
    rw e (bit_shift k (A / 2) q) ∙ sym (bit_suc A (k + q)) ∙ ap (bit A) (omega arith)

-- ---- the operations

-- what holds of each digit, and of each two
pub by_digit : (P : ℕ → Type 0) → P 0 → P 1 → (n : ℕ) → n < 2 → P n
by_digit P a b zero h = a
by_digit P a b (suc zero) h = b
by_digit P a b (suc (suc n)) h = absurd (omega arith)

by_digits : (P : ℕ → ℕ → Type 0) → P 0 0 → P 0 1 → P 1 0 → P 1 1 → (m n : ℕ) → m < 2 → n < 2 → P m n
by_digits P a b c d m n h k = by_digit (λ i. P i n) (by_digit (P 0) a b n k) (by_digit (P 1) c d n k) m h

and_low : (a b : ℕ) → bit_and a b % 2 ≡ min (a % 2) (b % 2)
and_low a b = omega (arith, and_step a b)

or_low : (a b : ℕ) → bit_or a b % 2 ≡ max (a % 2) (b % 2)
or_low a b = omega (arith, or_step a b)

less_low : (a b : ℕ) → bit_xor a (bit_and a b) % 2 ≡ differ (a % 2) (min (a % 2) (b % 2)) % 2
less_low a b = rw (← and_low a b) (omega (arith, xor_step a (bit_and a b)))

module _ (A B q : ℕ) where
  pub bit_both : bit (both A B) q ≡ (bit A q && bit B q)
  unfolding bit both
  bit_both =
      rw (and_shr A B q, and_low (A / 2 ^ q) (B / 2 ^ q))
      (by_digits (λ m n. eqb (min m n) 1 ≡ (eqb m 1 && eqb n 1)) refl refl refl refl (A / 2 ^ q % 2) (B / 2 ^ q % 2) (omega arith) (omega arith))

  pub bit_with : bit (with A B) q ≡ (bit A q || bit B q)
  unfolding bit with
  bit_with =
      rw (or_shr A B q, or_low (A / 2 ^ q) (B / 2 ^ q))
      (by_digits (λ m n. eqb (max m n) 1 ≡ (eqb m 1 || eqb n 1)) refl refl refl refl (A / 2 ^ q % 2) (B / 2 ^ q % 2) (omega arith) (omega arith))

  pub bit_less : bit (less A B) q ≡ (bit A q && not (bit B q))
  unfolding bit less
  bit_less =
      rw (xor_shr A (bit_and A B) q, and_shr A B q, less_low (A / 2 ^ q) (B / 2 ^ q))
      (by_digits (λ m n. eqb (differ m (min m n) % 2) 1 ≡ (eqb m 1 && not (eqb n 1))) refl refl refl refl (A / 2 ^ q % 2) (B / 2 ^ q % 2)
      (omega arith) (omega arith))

  -- where B has nothing, and where A has nothing
  pub with_left : bit B q ≡ false → bit (with A B) q ≡ bit A q
  with_left h = bit_with ∙ rw h (or_false (bit A q))

  pub with_right : bit A q ≡ false → bit (with A B) q ≡ bit B q
  with_right h = bit_with ∙ rw h refl

pub bit_one : (r q : ℕ) → bit (one r) q ≡ eqb q r
unfolding one
bit_one zero zero = bit_zero 1
bit_one zero (suc q) = bit_suc 1 q ∙ bit_none q ∙ sym (eqb-suc-zero q)
bit_one (suc r) zero = bit_zero (2 ^ suc r) ∙ ne_eqb (2 ^ suc r % 2) 1 (omega arith) ∙ sym (eqb-zero-suc r)
bit_one (suc r) (suc q) =
    let half : 2 ^ suc r / 2 ≡ 2 ^ r = omega arith in
    bit_suc (2 ^ suc r) q ∙ rw half (bit_one r q) ∙ sym (eqb-suc-suc q r)

-- ---- taking a node out, and putting one in

pub less_other : (A r q : ℕ) → (q ≡ r → ⊥) → bit (less A (one r)) q ≡ bit A q
less_other A r q h = bit_less A (one r) q ∙ rw (bit_one r q, ne_eqb q r h) (and_true (bit A q))

pub less_self : (A r : ℕ) → bit (less A (one r)) r ≡ false
less_self A r = bit_less A (one r) r ∙ rw (bit_one r r, eq-eqb r r refl) (and_false (bit A r))

pub with_other : (A r q : ℕ) → (q ≡ r → ⊥) → bit (with A (one r)) q ≡ bit A q
with_other A r q h = bit_with A (one r) q ∙ rw (bit_one r q, ne_eqb q r h) (or_false (bit A q))

pub with_self : (A r : ℕ) → bit (with A (one r)) r ≡ true
with_self A r = bit_with A (one r) r ∙ rw (bit_one r r, eq-eqb r r refl) (or_true (bit A r))
  where
    or_true : (b : Bool) → b || true ≡ true
    or_true true = refl
    or_true false = refl

-- ---- numbers with the same digits are one

pub same_bits : (k A B : ℕ) → A < 2 ^ k → B < 2 ^ k → ((q : ℕ) → q < k → bit A q ≡ bit B q) → A ≡ B
same_bits zero A B h l f = omega arith
same_bits (suc k) A B h l f =
    let half = same_bits k (A / 2) (B / 2) (omega arith) (omega arith) (λ q p. sym (bit_suc A q) ∙ f (suc q) (omega arith) ∙ bit_suc B q) in
    let low =
    by_digits (λ m n. eqb m 1 ≡ eqb n 1 → m ≡ n) (λ i. refl) (λ i. absurd (false≢true i)) (λ i. absurd (true≢false i)) (λ i. refl) (A % 2) (B % 2)
    (omega arith) (omega arith) (sym (bit_zero A) ∙ f 0 (omega arith) ∙ bit_zero B)
    in
    omega (arith, half, low)

-- a number with no digit set is 0
pub none_zero : (k A : ℕ) → A < 2 ^ k → ((q : ℕ) → q < k → bit A q ≡ false) → A ≡ 0
none_zero k A h f = same_bits k A 0 h (pow_pos k) (λ q l. f q l ∙ sym (bit_none q))

-- ---- words: numbers with no digit from 64 on

pub bits_small : (A : ℕ) → ((q : ℕ) → 64 ≤ q → bit A q ≡ false) → A < 2 ^ 64
bits_small A f =
    let z = none_zero (A / 2 ^ 64) (A / 2 ^ 64) (big (A / 2 ^ 64)) (λ q h. bit_shift 64 A q ∙ f (64 + q) (omega arith)) in
    omega (arith, z)
  where
    big : (n : ℕ) → n < 2 ^ n
    big zero = omega arith
    big (suc n) = omega (arith, big n)

pub small_bits : (A q : ℕ) → A < 2 ^ 64 → 64 ≤ q → bit A q ≡ false
small_bits A q h k =
    let z : A / 2 ^ 64 ≡ 0 = omega arith in
    ap (bit A) (omega arith) ∙ sym (bit_shift 64 A (q - 64)) ∙ rw z (bit_none (q - 64))

pub one_small : (r : ℕ) → r < 64 → one r < 2 ^ 64
unfolding one
one_small r h = pow-lt h

pub with_small : (A B : ℕ) → A < 2 ^ 64 → B < 2 ^ 64 → with A B < 2 ^ 64
unfolding with
with_small A B h k = or_lt 64 A B h k

pub both_small : (A B : ℕ) → A < 2 ^ 64 → both A B < 2 ^ 64
unfolding both
both_small A B h = omega (arith, and_le_l A B)

pub less_small : (A B : ℕ) → A < 2 ^ 64 → less A B < 2 ^ 64
less_small A B h = bits_small (less A B) (λ q k. bit_less A B q ∙ rw (small_bits A q h k) refl)
