-- An event that the expression does not name is waiting, sends nothing, and alters no later notice or status.
use Prim.Native.Nat.{ℕ}
use mathlib.Core.Path.{◌≡◌, refl, ap, ap₂, ◌∙◌}
use Rattle.par.specs.declared.Status.TheVariants.{Waiting}
use Rattle.par.specs.Status.{opposite, higher, lower, tried}
use Rattle.par.specs.Expr.{Expr, join}
use Rattle.par.specs.Expr.{Expr.silent, Expr.event, Expr.not, Expr.either, Expr.then, Expr.repeat, Expr.notify, Expr.try}
use Rattle.par.specs.Step.{status, notices, remainder, met, pushed}
use Rattle.par.specs.Like.{Like}
use Rattle.par.specs.Throughout.{Unnamed}
use Rattle.par.proofs.Sets.{none_join}
use Rattle.par.proofs.Figure3.{other_event}
use Rattle.par.proofs.Agree.{like_refl, like_sym, like_trans}
use Rattle.par.proofs.LikeSwapped.{not_like, notify_like, either_like, then_like, try_like}
use Rattle.par.proofs.LikeEquations.{repeat_once}

pub unnamed_status : (x : Expr) (a : ℕ) → Unnamed a x → status x a ≡ Waiting
unfolding status
unnamed_status silent a u = refl
unnamed_status (event b) a u = ap met (other_event u)
unnamed_status (not x) a u = ap opposite (unnamed_status x a u)
unnamed_status (either x y) a (u, v) = ap₂ higher (unnamed_status x a u) (unnamed_status y a v)
unnamed_status (then x y) a (u, v) = ap (λ c. lower c Waiting) (unnamed_status x a u)
unnamed_status (repeat x) a u = ap (λ c. lower c Waiting) (unnamed_status x a u)
unnamed_status (notify x A) a (u, v) = unnamed_status x a u
unnamed_status (try x y) a (u, v) = ap₂ tried (unnamed_status x a u) (unnamed_status y a v)

pub unnamed_notices : (x : Expr) (a : ℕ) → Unnamed a x → notices x a ≡ 0
unfolding notices
unnamed_notices silent a u = refl
unnamed_notices (event b) a u = refl
unnamed_notices (not x) a u = unnamed_notices x a u
unnamed_notices (either x y) a (u, v) = ap₂ join (unnamed_notices x a u) (unnamed_notices y a v) ∙ none_join 0
unnamed_notices (then x y) a (u, v) = unnamed_notices x a u
unnamed_notices (repeat x) a u = unnamed_notices x a u
unnamed_notices (notify x A) a (u, v) = ap₂ (λ c o. pushed c o A) (unnamed_status x a u) (unnamed_notices x a u)
unnamed_notices (try x y) a (u, v) = ap₂ join (unnamed_notices x a u) (unnamed_notices y a v) ∙ none_join 0

-- two such events leave the same
pub unnamed_same : (x : Expr) (a b : ℕ) → Unnamed a x → Unnamed b x → remainder x a ≡ remainder x b
unfolding remainder
unnamed_same silent a b u v = refl
unnamed_same (event c) a b u v = rw (other_event u, other_event v)
unnamed_same (not x) a b u v = rw (unnamed_status x a u, unnamed_status x b v) (ap not (unnamed_same x a b u v))
unnamed_same (either x y) a b (u, u') (v, v') =
    rw (unnamed_status x a u, unnamed_status x b v, unnamed_status y a u', unnamed_status y b v')
    (ap₂ either (unnamed_same x a b u v) (unnamed_same y a b u' v'))
unnamed_same (then x y) a b (u, u') (v, v') = rw (unnamed_status x a u, unnamed_status x b v) (ap (λ d. then d y) (unnamed_same x a b u v))
unnamed_same (repeat x) a b u v = rw (unnamed_status x a u, unnamed_status x b v) (ap (λ d. then d (repeat x)) (unnamed_same x a b u v))
unnamed_same (notify x A) a b (u, u') (v, v') = rw (unnamed_status x a u, unnamed_status x b v) (ap (λ d. notify d A) (unnamed_same x a b u v))
unnamed_same (try x y) a b (u, u') (v, v') =
    rw (unnamed_status x a u, unnamed_status x b v, unnamed_status y a u', unnamed_status y b v')
    (ap₂ try (unnamed_same x a b u v) (unnamed_same y a b u' v'))

-- what is left behaves as before
pub unnamed_like : (x : Expr) (a : ℕ) → Unnamed a x → Like (remainder x a) x
unfolding remainder
unnamed_like silent a u = like_refl
unnamed_like (event b) a u = rw (other_event u) like_refl
unnamed_like (not x) a u = rw (unnamed_status x a u) (not_like (unnamed_like x a u))
unnamed_like (either x y) a (u, v) =
    rw (unnamed_status x a u, unnamed_status y a v) (either_like (unnamed_like x a u) (unnamed_like y a v))
unnamed_like (then x y) a (u, v) = rw (unnamed_status x a u) (then_like (unnamed_like x a u) like_refl)
unnamed_like (repeat x) a u =
    rw (unnamed_status x a u) (like_trans (then_like (unnamed_like x a u) like_refl) (like_sym (repeat_once x)))
unnamed_like (notify x A) a (u, v) = rw (unnamed_status x a u) (notify_like A (unnamed_like x a u))
unnamed_like (try x y) a (u, v) =
    rw (unnamed_status x a u, unnamed_status y a v) (try_like (unnamed_like x a u) (unnamed_like y a v))
