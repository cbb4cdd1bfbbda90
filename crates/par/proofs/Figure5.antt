-- Figure 5 holds of exactly the value of `notices`.
use Prim.Native.Nat.{ℕ}
use mathlib.Core.Path.{◌≡◌, refl, ap₂, ◌∙◌, subst}
use mathlib.Core.Logic.{◌≢◌, ◌↔◌}
use Rattle.par.specs.declared.Status.{Status}
use Rattle.par.specs.declared.Status.TheVariants.{Waiting, Success, Failure}
use Rattle.par.specs.Expr.{Expr, join}
use Rattle.par.specs.Expr.{Expr.silent, Expr.event, Expr.not, Expr.either, Expr.then, Expr.repeat, Expr.notify, Expr.try}
use Rattle.par.specs.Step.{status, notices, pushed}
use Rattle.par.specs.Figures.{Completes, Sends}
use Rattle.par.specs.Figures.{Sends.o_silent, Sends.o_ev, Sends.o_neg, Sends.o_seq, Sends.o_sel, Sends.o_rep, Sends.o_try, Sends.o_push₁, Sends.o_push₂}
use Rattle.par.proofs.Order.{waiting_success, failure_success}
use Rattle.par.proofs.Figure3.{completes_value, value_completes}

pushed_not : (c : Status) (o A : ℕ) → c ≢ Success → pushed c o A ≡ o
pushed_not Waiting o A n = refl
pushed_not Success o A n = absurd (n refl)
pushed_not Failure o A n = refl

sends_value : {x : Expr} {a o : ℕ} → Sends x a o → notices x a ≡ o
unfolding notices
sends_value o_silent = refl
sends_value o_ev = refl
sends_value (o_neg p) = sends_value p
sends_value (o_seq p) = sends_value p
sends_value (o_sel p q) = ap₂ join (sends_value p) (sends_value q)
sends_value (o_rep p) = sends_value p
sends_value (o_try p q) = ap₂ join (sends_value p) (sends_value q)
sends_value (o_push₁ {A = A} p q) = ap₂ (λ c o. pushed c o A) (completes_value q) (sends_value p)
sends_value (o_push₂ {A = A} {o = o} {c = c} p q n) =
    ap₂ (λ c o. pushed c o A) (completes_value q) (sends_value p) ∙ pushed_not c o A n

sends_notify : {x : Expr} {a o : ℕ} (A : ℕ) (c : Status) → Completes x a c → Sends x a o → Sends (notify x A) a (pushed c o A)
sends_notify A Waiting p q = o_push₂ q p waiting_success
sends_notify A Success p q = o_push₁ q p
sends_notify A Failure p q = o_push₂ q p failure_success

value_sends : (x : Expr) (a : ℕ) → Sends x a (notices x a)
unfolding notices
value_sends silent a = o_silent
value_sends (event b) a = o_ev
value_sends (not x) a = o_neg (value_sends x a)
value_sends (either x y) a = o_sel (value_sends x a) (value_sends y a)
value_sends (then x y) a = o_seq (value_sends x a)
value_sends (repeat x) a = o_rep (value_sends x a)
value_sends (notify x A) a = sends_notify A (status x a) (value_completes x a) (value_sends x a)
value_sends (try x y) a = o_try (value_sends x a) (value_sends y a)

pub figure_5 : (x : Expr) (a o : ℕ) → Sends x a o ↔ (notices x a ≡ o)
figure_5 x a o = (sends_value, λ e. subst (λ s. Sends x a s) e (value_sends x a))
