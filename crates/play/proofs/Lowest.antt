-- The lowest node of a mask, and the loop over a mask, lowest first.
use Prim.Native.Nat.{ℕ, zero, suc, ◌-◌, ◌/◌, ◌%◌, ◌^◌, ◌<◌}
use mathlib.Core.Path.{◌≡◌, refl, sym, ◌∙◌}
use mathlib.Core.Bool.{Bool, true, false, not, cond, ◌&&◌}
use mathlib.Core.List.{List}
use native.Mathlib.Omega.{arith}
use lib.Dec.{eqb, eqb-suc-zero, eqb-suc-suc}
use lib.Count.{count_trailing_zeros, under}
use lib.Bits.{xor_add_and}
use lib.Pow.{pow_pos}
use borrow.Author.Tests.{eq-eqb, ne_eqb, eqb-true, eqb-false}
use Rattle.play.specs.Mirror.Masks.{bit, one, with, less, both}
use Rattle.play.specs.Mirror.Nodes.{first_at}
use Rattle.play.specs.Mirror.Step.{met_at, comes}
use Rattle.play.proofs.Digits.{and_true, and_false, and_left, and_right, bit_zero, bit_suc, bit_none, bit_one, bit_both, bit_less, same_bits}
use Rattle.play.proofs.Digits.{less_self, less_other, with_self, with_other, one_small, with_small, less_small, both_small}
use Rattle.play.proofs.Tests.{by_test}
use Rattle.play.proofs.Comes.{comes_below, comes_small}

-- ---- the lowest digit set

record Lowest (k n r : ℕ) : Type 0 where
  pub few : r < k
  pub on : bit n r ≡ true

lowest_at : (k n : ℕ) → n < 2 ^ k → (n ≡ 0 → ⊥) → Lowest k n (count_trailing_zeros k n)
unfolding count_trailing_zeros
lowest_at zero n h z = absurd (z (omega arith))
lowest_at (suc k) n h z = go (lowest_at k (n / 2) (omega arith)) (n % 2) refl
  where
    go : ((n / 2 ≡ 0 → ⊥) → Lowest k (n / 2) (count_trailing_zeros k (n / 2))) → (d : ℕ) → n % 2 ≡ d
        → Lowest (suc k) n (under d (count_trailing_zeros k (n / 2)))
    go ih zero i =
        let at = ih (λ (e : n / 2 ≡ 0). z (omega arith)) in
        record { few = omega arith; on = bit_suc n (count_trailing_zeros k (n / 2)) ∙ at.on }
    go ih (suc d) i = record { few = omega arith; on = bit_zero n ∙ eq-eqb (n % 2) 1 (omega arith) }

module _ (n : ℕ) (h : n < 2 ^ 64) (z : n ≡ 0 → ⊥) where
  pub lowest_few : count_trailing_zeros 64 n < 64
  lowest_few = (lowest_at 64 n h z).few

  pub lowest_on : bit n (count_trailing_zeros 64 n) ≡ true
  lowest_on = (lowest_at 64 n h z).on

-- taking a node out that is in makes the number less
pub less_falls : (A r : ℕ) → A < 2 ^ 64 → r < 64 → bit A r ≡ true → less A (one r) < A
unfolding less both one
less_falls A r h few i =
    let only : both A (one r) ≡ one r = same_bits 64 (both A (one r)) (one r) (both_small A (one r) h) (one_small r few)
    (λ q l. bit_both A (one r) q ∙ rw (bit_one r q) (own q (eqb q r) refl) ∙ sym (bit_one r q)) in
    let sum = xor_add_and A (2 ^ r) in
    let pos = pow_pos r in
    rw (only) (omega (arith, sum, only, pos))
  where
    own : (q : ℕ) (b : Bool) → eqb q r ≡ b → bit A q && b ≡ b
    own q true j = rw (eqb-true q r j, i) refl
    own q false j = and_false (bit A q)

-- a number and the one before it have all its digits in common but the lowest
drop_bits : (k n : ℕ) → n < 2 ^ k → (n ≡ 0 → ⊥) → (q : ℕ) → bit n q && bit (n - 1) q ≡ (bit n q && not (eqb q (count_trailing_zeros k n)))
unfolding count_trailing_zeros
drop_bits zero n h z q = absurd (z (omega arith))
drop_bits (suc k) n h z q = go (drop_bits k (n / 2) (omega arith)) q (n % 2) refl
  where
    same : (b : Bool) → b && b ≡ b && true
    same true = refl
    same false = refl

    go : ((n / 2 ≡ 0 → ⊥) → (p : ℕ) → bit (n / 2) p && bit (n / 2 - 1) p ≡ (bit (n / 2) p && not (eqb p (count_trailing_zeros k (n / 2)))))
        → (q d : ℕ) → n % 2 ≡ d → bit n q && bit (n - 1) q ≡ (bit n q && not (eqb q (under d (count_trailing_zeros k (n / 2)))))
    go ih zero zero i =
        let off : bit n 0 ≡ false = bit_zero n ∙ ne_eqb (n % 2) 1 (λ (e : n % 2 ≡ 1). omega arith) in
        rw off refl
    go ih (suc p) zero i =
        let half : (n - 1) / 2 ≡ n / 2 - 1 = omega arith in
        rw (bit_suc n p, bit_suc (n - 1) p, half, eqb-suc-suc p (count_trailing_zeros k (n / 2)))
        (ih (λ (e : n / 2 ≡ 0). z (omega arith)) p)
    go ih zero (suc d) i =
        let off : bit (n - 1) 0 ≡ false = bit_zero (n - 1) ∙ ne_eqb ((n - 1) % 2) 1 (λ (e : (n - 1) % 2 ≡ 1). omega arith) in
        rw off refl
    go ih (suc p) (suc d) i =
        let half : (n - 1) / 2 ≡ n / 2 = omega arith in
        rw (bit_suc n p, bit_suc (n - 1) p, half, eqb-suc-zero p) (same (bit (n / 2) p))

pub dropped : (n : ℕ) → n < 2 ^ 64 → (n ≡ 0 → ⊥) → both n (n - 1) ≡ less n (one (count_trailing_zeros 64 n))
dropped n h z =
    let r = count_trailing_zeros 64 n in
    same_bits 64 (both n (n - 1)) (less n (one r)) (both_small n (n - 1) h) (less_small n (one r) h)
    (λ q l. bit_both n (n - 1) q ∙ drop_bits 64 n h z q ∙ sym (bit_less n (one r) q ∙ rw (bit_one r q) refl))

pub drop_falls : (n : ℕ) → n < 2 ^ 64 → (n ≡ 0 → ⊥) → both n (n - 1) < n
drop_falls n h z = rw (dropped n h z) (less_falls n (count_trailing_zeros 64 n) h (lowest_few n h z) (lowest_on n h z))

-- ---- the events in play, one after the other

-- met are those that came, of all but the ones that are left
pub record Meets (F : List ℕ) (L a A left met : ℕ) : Type 0 where
  pub left_small : left < 2 ^ 64
  pub met_small : met < 2 ^ 64
  pub play : (q : ℕ) → bit left q ≡ true → bit A q ≡ true
  pub event : (q : ℕ) → bit left q ≡ true → bit L q ≡ true
  pub gives : (q : ℕ) → bit met q ≡ (met_at F L a A q && not (bit left q))

module _ (F : List ℕ) (L a A : ℕ) where
  pub meets_none : A < 2 ^ 64 → Meets F L a A (both A L) 0
  meets_none h =
      record {
        left_small = both_small A L h;
        met_small = omega arith;
        play = λ q i. and_left (bit A q) (bit L q) (sym (bit_both A L q) ∙ i);
        event = λ q i. and_right (bit A q) (bit L q) (sym (bit_both A L q) ∙ i);
        gives = λ q. bit_none q ∙ rw (bit_both A L q) (nought (bit L q) (eqb (first_at F q) a) (bit A q));
      }
    where
      nought : (l e p : Bool) → false ≡ ((l && (e && p)) && not (p && l))
      nought false e p = refl
      nought true false p = refl
      nought true true true = refl
      nought true true false = refl

  module _ {left met : ℕ} (m : Meets F L a A left met) (z : left ≡ 0 → ⊥) where
    more_gives : (r : ℕ) → bit left r ≡ true → (t : Bool) → eqb (first_at F r) a ≡ t → (q : ℕ) (b : Bool) → eqb q r ≡ b
        → bit (cond t (with met (one r)) met) q ≡ (met_at F L a A q && not (bit (less left (one r)) q))
    more_gives r i true j q true k =
        rw (eqb-true q r k, with_self met r, less_self left r, m.event r i, m.play r i, j) refl
    more_gives r i false j q true k =
        rw (eqb-true q r k, less_self left r, m.event r i, m.play r i, j)
        (m.gives r ∙ rw i (and_false (met_at F L a A r)))
    more_gives r i true j q false k =
        let n = eqb-false q r k in
        rw (less_other left r q n) (with_other met r q n ∙ m.gives q)
    more_gives r i false j q false k = let n = eqb-false q r k in rw (less_other left r q n) (m.gives q)

    in_less : (r q : ℕ) → bit (less left (one r)) q ≡ true → bit left q ≡ true
    in_less r q i = and_left (bit left q) (not (bit (one r) q)) (sym (bit_less left (one r) q) ∙ i)

    -- the lowest of those left is taken out
    pub meets_drop : Meets F L a A (both left (left - 1))
        (cond (eqb (first_at F (count_trailing_zeros 64 left)) a) (with met (one (count_trailing_zeros 64 left))) met)
    meets_drop =
        let r = count_trailing_zeros 64 left in
        let few = lowest_few left m.left_small z in
        rw (dropped left m.left_small z)
        (record {
          left_small = less_small left (one r) m.left_small;
          met_small =
              by_test (λ n. n < 2 ^ 64) (eqb (first_at F r) a) (λ _. with_small met (one r) m.met_small (one_small r few)) (λ _. m.met_small);
          play = λ q i. m.play q (in_less r q i);
          event = λ q i. m.event q (in_less r q i);
          gives = λ q. more_gives r (lowest_on left m.left_small z) (eqb (first_at F r) a) refl q (eqb q r) refl;
        })

  -- none is left
  pub meets_all : {left met : ℕ} → Meets F L a A left met → left ≡ 0 → met ≡ comes F L a A 64
  meets_all {left} {met} m z =
      same_bits 64 met (comes F L a A 64) m.met_small (comes_small F L a A)
      (λ q l. m.gives q ∙ rw (z, bit_none q) (and_true (met_at F L a A q)) ∙ sym (comes_below F L a A 64 q l))
