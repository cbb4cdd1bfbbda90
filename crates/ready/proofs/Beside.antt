-- An expression in play in its places and nowhere else, and what comes into play beside it: the node behind it, or another part with that node.
use Prim.Native.Nat.{ℕ, suc, ◌≤◌, ◌<◌}
use mathlib.Core.Path.{◌≡◌, refl, ◌∙◌}
use mathlib.Core.Bool.{true}
use mathlib.Core.List.{List}
use native.Mathlib.Omega.{arith}
use borrow.Author.Tests.{eq-eqb, ne_eqb}
use Rattle.par.specs.Expr.{Expr}
use Rattle.play.specs.Mirror.Masks.{bit, one, with}
use Rattle.play.proofs.Compared.{Clear, Only}
use Rattle.play.proofs.Plays.{Plays}
use Rattle.play.proofs.Digits.{bit_one, with_other, with_left, with_right}
use Rattle.play.proofs.Ranges.{agree_self, agree_before, same_with, only_wider}
use Rattle.play.proofs.Frame.{goes_agree, frame, in_range}

pub one_self : (r : ℕ) → bit (one r) r ≡ true
one_self r = bit_one r r ∙ eq-eqb r r refl

pub only_one : (r : ℕ) → Only r r (one r)
only_one r =
    record { below = λ q h. bit_one r q ∙ ne_eqb q r (λ e. omega arith); above = λ q h. bit_one r q ∙ ne_eqb q r (λ e. omega arith) }

only_with : {lo r A B : ℕ} → Only lo r A → Only lo r B → Only lo r (with A B)
only_with {A = A} {B = B} o p =
    record { below = λ q h. with_left A B q (p.below q h) ∙ o.below q h; above = λ q h. with_left A B q (p.above q h) ∙ o.above q h }

-- the node behind y comes into play, and the second part does not
pub first_clear : {lo x A : ℕ} (y : ℕ) → Only lo x A → Clear (with A (one (suc y))) (suc x) y
first_clear {A = A} y o = record { off = λ q h k. with_other A (suc y) q (λ e. omega arith) ∙ o.above q h }

-- e in play in the places lo .. r, and A nothing else
pub record At (F G : List ℕ) (L R A lo r : ℕ) (e : Expr) : Type 0 where
  pub plays : Plays F G L R A 0 lo r e
  pub only : Only lo r A

module _ {F G : List ℕ} {L R : ℕ} where
  -- what comes into play behind e, or before it, leaves it as it is
  plays_behind : {lo r lo' r' A B : ℕ} {e : Expr} → r < lo' → Only lo' r' B → Plays F G L R A 0 lo r e → Plays F G L R (with A B) 0 lo r e
  plays_behind {A = A} {B = B} h o m = frame (agree_before h (same_with A B o)) (goes_agree agree_self) m

  plays_before : {lo r lo' r' A B : ℕ} {e : Expr} → r' < lo → Only lo' r' A → Plays F G L R B 0 lo r e → Plays F G L R (with A B) 0 lo r e
  plays_before {A = A} {B = B} h o m =
      frame (record { at = λ q l k. with_right A B q (o.above q (omega arith)) }) (goes_agree agree_self) m

  pub at_is : {A B lo r : ℕ} {e : Expr} → B ≡ A → At F G L R A lo r e → At F G L R B lo r e
  at_is i a = rw i a

  -- the node behind y comes into play with its first part
  pub with_first : {lo x A : ℕ} {d : Expr} (y : ℕ) → x ≤ y → At F G L R A lo x d
      → Plays F G L R (with A (one (suc y))) 0 lo x d × Only lo (suc y) (with A (one (suc y)))
  with_first y h a =
      let l = in_range a.plays in (
        plays_behind (omega arith) (only_one (suc y)) a.plays,
        only_with (only_wider (omega arith) (omega arith) a.only) (only_wider (omega arith) (omega arith) (only_one (suc y))),
      )

  -- or with both
  pub with_both : {lo x y A B : ℕ} {d e : Expr} → At F G L R A lo x d → At F G L R B (suc x) y e
      → Plays F G L R (with (with A B) (one (suc y))) 0 lo x d × Plays F G L R (with (with A B) (one (suc y))) 0 (suc x) y e
      × Only lo (suc y) (with (with A B) (one (suc y)))
  with_both {y = y} a b =
      let l = in_range a.plays in
      let k = in_range b.plays in (
        plays_behind (omega arith) (only_one (suc y)) (plays_behind (omega arith) b.only a.plays),
        plays_behind (omega arith) (only_one (suc y)) (plays_before (omega arith) a.only b.plays),
        only_with (only_with (only_wider (omega arith) (omega arith) a.only) (only_wider (omega arith) (omega arith) b.only))
            (only_wider (omega arith) (omega arith) (only_one (suc y))),
      )
