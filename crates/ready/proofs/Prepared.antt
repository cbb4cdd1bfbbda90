-- What the lists and masks hold once the nodes below n are prepared: each node what its kind asks, from what earlier nodes hold.
use Prim.Native.Nat.{ℕ, zero, suc, ◌-◌, ◌≤◌, ◌<◌}
use mathlib.Core.Path.{◌≡◌, refl, sym, ap₂, ◌∙◌}
use mathlib.Core.Logic.{◌⊎◌, inl, inr}
use mathlib.Core.Bool.{Bool, true, false, cond}
use mathlib.Core.List.{List}
use native.Mathlib.Nat.{eq-or-lt_of_le}
use native.Mathlib.Omega.{arith}
use lib.ListN.{length, get_or}
use lib.Dec.{eqb, ltb}
use borrow.Author.Tests.{ltb-true}
use Rattle.play.specs.Mirror.Masks.{bit, one, with}
use Rattle.play.specs.Mirror.Nodes.{kind_at, first_at, gain_at}
use Rattle.play.proofs.Digits.{bit_none, with_self, with_other}
use Rattle.play.proofs.Tests.{by_test}
use Rattle.ready.specs.Mirror.Fresh.{fresh_from, gain_from, marked, earlier, prepares}
use Rattle.ready.proofs.Keeps.{turns_keep, turns_ahead, turns_set}

-- H and G are what the nodes F have afresh and gain, L their events and R their repeats
pub record Has (F S : List ℕ) (n : ℕ) (H G : List ℕ) (L R : ℕ) : Type 0 where
  pub fresh_is : (r : ℕ) → r < n → get_or H r 0 ≡ fresh_from (kind_at F r) r (earlier H (first_at F r) r) (earlier H (r - 1) r)
  pub gain_is : (r : ℕ) → r < n → gain_at G r ≡ gain_from (kind_at F r) (get_or S r 0) (earlier H (r - 1) r)
  pub leaf_is : (r : ℕ) → r < n → bit L r ≡ eqb (kind_at F r) 2
  pub repeat_is : (r : ℕ) → r < n → bit R r ≡ eqb (kind_at F r) 6

-- ---- the marks of one kind, in turns: M n are those below n

module _ (F : List ℕ) (wanted : ℕ) (M : ℕ → ℕ) (none : M 0 ≡ 0) (turn : (n : ℕ) → M (suc n) ≡ marked (kind_at F n) wanted n (M n)) where
  marks_other : (n q : ℕ) → (q ≡ n → ⊥) → bit (M (suc n)) q ≡ bit (M n) q
  unfolding marked
  marks_other n q h =
      rw (turn n) (by_test (λ A. bit A q ≡ bit (M n) q) (eqb (kind_at F n) wanted) (λ _. with_other (M n) n q h) (λ _. refl))

  marks_ahead : (n q : ℕ) → n ≤ q → bit (M n) q ≡ false
  marks_ahead zero q h = rw none (bit_none q)
  marks_ahead (suc n) q h = marks_other n q (λ e. omega arith) ∙ marks_ahead n q (omega arith)

  marks_self : (n : ℕ) → bit (M (suc n)) n ≡ eqb (kind_at F n) wanted
  unfolding marked
  marks_self n = rw (turn n) (go (eqb (kind_at F n) wanted))
    where
      go : (b : Bool) → bit (cond b (with (M n) (one n)) (M n)) n ≡ b
      go true = with_self (M n) n
      go false = marks_ahead n n (omega arith)

  marks_at : (n q : ℕ) → q < n → bit (M n) q ≡ eqb (kind_at F q) wanted
  marks_at zero q h = absurd (omega arith)
  marks_at (suc n) q h = go (marks_at n q) (eq-or-lt_of_le h)
    where
      go : (q < n → bit (M n) q ≡ eqb (kind_at F q) wanted) → (suc q ≡ suc n) ⊎ (suc q < suc n) → bit (M (suc n)) q ≡ eqb (kind_at F q) wanted
      go ih (inl e) = let i : q ≡ n = omega arith in rw i (marks_self n)
      go ih (inr l) = marks_other n q (λ e. omega arith) ∙ ih (omega arith)

-- ---- the nodes below n

module _ (F S : List ℕ) where
  -- what an earlier node has does not change any more
  earlier_stays : (n r x : ℕ) → r ≤ n → earlier (prepares F S r).fresh x r ≡ earlier (prepares F S n).fresh x r
  unfolding earlier prepares
  earlier_stays n r x h = go (ltb x r) refl
    where
      go : (b : Bool) → ltb x r ≡ b → cond b (get_or (prepares F S r).fresh x 0) 0 ≡ cond b (get_or (prepares F S n).fresh x 0) 0
      go true e = sym ((turns_keep (λ m. (prepares F S m).fresh) _ (λ m. refl) n r h).below x (ltb-true x r e))
      go false e = refl

  pub prepares_has : length S ≡ 64 → (n : ℕ) → n ≤ 64 → let p = prepares F S n in Has F S n p.fresh p.gain p.leaves p.repeats
  unfolding prepares gain_at
  prepares_has long n few =
      record {
        fresh_is = λ r h.
            turns_set (λ m. (prepares F S m).fresh) _ (λ m. refl) n r h few
            ∙ ap₂ (fresh_from (kind_at F r) r) (earlier_stays n r (first_at F r) (omega arith)) (earlier_stays n r (r - 1) (omega arith));
        gain_is = λ r h.
            turns_set (λ m. (prepares F S m).gain) _ (λ m. refl) n r h (omega arith)
            ∙ ap₂ (gain_from (kind_at F r)) (turns_ahead (λ m. (prepares F S m).gain) _ (λ m. refl) r r (omega arith))
            (earlier_stays n r (r - 1) (omega arith));
        leaf_is = λ r h. marks_at F 2 (λ m. (prepares F S m).leaves) refl (λ m. refl) n r h;
        repeat_is = λ r h. marks_at F 6 (λ m. (prepares F S m).repeats) refl (λ m. refl) n r h;
      }

  pub gain_long : (n : ℕ) → length (prepares F S n).gain ≡ length S
  unfolding prepares
  gain_long n = (turns_keep (λ m. (prepares F S m).gain) _ (λ m. refl) n 0 (omega arith)).long
