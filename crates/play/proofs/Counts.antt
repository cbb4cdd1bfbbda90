-- How many nodes of a mask stand below a place.
use Prim.Native.Nat.{ℕ, zero, suc, ◌+◌, ◌/◌, ◌%◌, ◌^◌, ◌≤◌, ◌<◌}
use mathlib.Core.Path.{◌≡◌, refl, sym, ap, ◌∙◌}
use mathlib.Core.Logic.{◌⊎◌, inl, inr}
use mathlib.Core.Bool.{true, false, cond}
use native.Mathlib.Nat.{eq-or-lt_of_le}
use native.Mathlib.Omega.{arith}
use lib.Dec.{eqb}
use lib.Count.{ones, ones_step}
use Rattle.play.specs.Mirror.Masks.{bit}
use Rattle.play.proofs.Compared.{upto, Clear}
use Rattle.play.proofs.Digits.{bit_zero, bit_suc, by_digit}

pub upto_on : (M b : ℕ) → bit M b ≡ true → upto M (suc b) ≡ upto M b + 1
unfolding upto
upto_on M b h = rw h refl

pub upto_off : (M b : ℕ) → bit M b ≡ false → upto M (suc b) ≡ upto M b
unfolding upto
upto_off M b h = rw h (omega arith)

pub upto_flat : (M lo b : ℕ) → lo ≤ b → ((q : ℕ) → lo ≤ q → q < b → bit M q ≡ false) → upto M b ≡ upto M lo
upto_flat M lo zero h f = ap (upto M) (omega arith)
upto_flat M lo (suc b) h f = go (upto_flat M lo b) (eq-or-lt_of_le h)
  where
    go : (lo ≤ b → ((q : ℕ) → lo ≤ q → q < b → bit M q ≡ false) → upto M b ≡ upto M lo) → (lo ≡ suc b) ⊎ (lo < suc b)
        → upto M (suc b) ≡ upto M lo
    go ih (inl e) = ap (upto M) (sym e)
    go ih (inr l) = upto_off M b (f b (omega arith) (omega arith)) ∙ ih (omega arith) (λ q p k. f q p (omega arith))

-- over a range with nothing in it
pub upto_clear : {M lo r : ℕ} → lo ≤ r → Clear M lo r → upto M (suc r) ≡ upto M lo
upto_clear {M} {lo} {r} h c = upto_flat M lo (suc r) (omega arith) (λ q p k. c.off q p (omega arith))

upto_half : (M b : ℕ) → upto M (suc b) ≡ cond (bit M 0) 1 0 + upto (M / 2) b
unfolding upto
upto_half M zero = omega arith
upto_half M (suc b) = let ih = upto_half M b in rw (bit_suc M b) (omega arith)

pub ones_upto : (k M : ℕ) → M < 2 ^ k → ones M ≡ upto M k
unfolding ones upto
ones_upto zero M h = let e : M ≡ 0 = omega arith in rw e refl
ones_upto (suc k) M h =
    let ih = ones_upto k (M / 2) (omega arith) in
    let digit : cond (bit M 0) 1 0 ≡ M % 2 =
    rw (bit_zero M) (by_digit (λ n. cond (eqb n 1) 1 0 ≡ n) refl refl (M % 2) (omega arith))
    in
    ones_step M ∙ sym (upto_half M k ∙ omega arith)
