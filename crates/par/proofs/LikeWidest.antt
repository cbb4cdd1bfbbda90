-- Likeness is the widest relation under which expressions can be exchanged: `exchangeable_like`. Equal notices of the two by themselves
-- are a wider one, under which they cannot: `same_alone` and `not_alike`.
use Prim.Native.Nat.{ℕ, ◌<◌, ◌^◌}
use mathlib.Core.Path.{◌≡◌, refl, sym, ap₂, ◌∙◌}
use mathlib.Core.List.{List, [], ◌∷◌}
use mathlib.Core.Logic.{◌≢◌}
use native.Mathlib.Omega.{arith}
use lib.Dec.{lit<}
use lib.Pow.{pow-lt}
use Rattle.par.specs.Expr.{Expr, join}
use Rattle.par.specs.Expr.{Expr.silent, Expr.event, Expr.notify}
use Rattle.par.specs.Step.{status, notices, remainder}
use Rattle.par.specs.Figures.{Completes.α_ev₁}
use Rattle.par.specs.Feed.{answers, notices_on}
use Rattle.par.specs.Like.{Like, Swapped}
use Rattle.par.specs.Like.{Swapped.here, Swapped.same, Swapped.in_not, Swapped.in_then}
use Rattle.par.specs.Throughout.{Any, Fits, Writable}
use Rattle.par.specs.Exchange.{Exchangeable, Setting, Setting.plain, Setting.reversed, in_setting}
use Rattle.par.proofs.Order.{success_waiting}
use Rattle.par.proofs.Figure3.{completes_value}
use Rattle.par.proofs.Agree.{like_status}
use Rattle.par.proofs.LikeSwapped.{swapped_like}
use Rattle.par.proofs.LikeSettings.{same_in_both_like}
use Rattle.par.proofs.Throughout.{remainder_has, notices_lt}

-- ---- equal notices inside every larger rule are likeness, since they are equal in both settings

-- it notifies recipient 0 on the event 0
abbrev witness : Expr
witness = notify (event 0) 1

witness_sends : notices witness 0 ≢ 0
unfolding notices status join
witness_sends e = omega (arith, e)

in_setting_lem : (w x y : Expr) (s : Setting) → Swapped x y (in_setting s w x) (in_setting s w y)
in_setting_lem w x y plain = in_then here same
in_setting_lem w x y reversed = in_then (in_not here) same

module _ (k : ℕ) (some : 0 < k) where
  witness_writable : Writable k witness
  witness_writable = (lit< tt, pow-lt some)

  setting_writable : (x : Expr) (s : Setting) → Writable k x → Writable k (in_setting s witness x)
  setting_writable x plain p = (p, witness_writable)
  setting_writable x reversed p = (p, witness_writable)

  pub exchangeable_like : {x y : Expr} → Writable k x → Writable k y → Exchangeable k x y → Like x y
  exchangeable_like {x} {y} p q e =
      same_in_both_like witness 0 (lit< tt) witness_sends
      (record { same = λ s. e.inside (in_setting_lem witness x y s) (setting_writable x s p) (setting_writable y s q) })

pub like_exchangeable : (k : ℕ) {x y : Expr} → Like x y → Exchangeable k x y
like_exchangeable k h = record { inside = λ s p q. (swapped_like h s).same_notices }

-- ---- equal notices of the two by themselves are not

-- with no recipient nothing is sent
quiet : (x y : Expr) → Fits 0 x → Fits 0 y → (feed : List ℕ) → notices_on x feed ≡ notices_on y feed
unfolding answers
quiet x y p q [] = refl
quiet x y p q (a ∷ feed) =
    ap₂ (λ (n : ℕ) (l : List ℕ). n ∷ l) (omega (arith, notices_lt 0 x a p, notices_lt 0 y a q))
    (quiet (remainder x a) (remainder y a) (remainder_has Any (λ A. A < 2 ^ 0) x a p) (remainder_has Any (λ A. A < 2 ^ 0) y a q) feed)

pub same_alone : (b : ℕ) (feed : List ℕ) → notices_on (event b) feed ≡ notices_on silent feed
same_alone b feed = quiet (event b) silent tt tt feed

pub not_alike : (b : ℕ) → b < 256 → ¬ Like (event b) silent
unfolding status
not_alike b l h = success_waiting (sym (completes_value (α_ev₁ {a = b})) ∙ like_status h b l)
