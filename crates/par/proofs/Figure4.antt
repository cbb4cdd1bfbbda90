-- Figure 4 holds of exactly the value of `remainder`.
use Prim.Native.Nat.{ℕ}
use mathlib.Core.Path.{◌≡◌, refl, sym, ap, ap₂, ◌∙◌, subst}
use mathlib.Core.Bool.{Bool, true, false}
use mathlib.Core.Logic.{◌≢◌, ◌↔◌}
use lib.Dec.{eqb}
use Rattle.par.specs.declared.Status.{Status}
use Rattle.par.specs.declared.Status.TheVariants.{Waiting, Success, Failure}
use Rattle.par.specs.Status.{opposite, higher, lower, tried}
use Rattle.par.specs.Expr.{Expr}
use Rattle.par.specs.Expr.{Expr.silent, Expr.event, Expr.not, Expr.either, Expr.then, Expr.repeat, Expr.notify, Expr.try}
use Rattle.par.specs.Step.{status, remainder, met, kept, either_rest, try_rest, then_rest}
use Rattle.par.specs.Figures.{Completes, Becomes}
use Rattle.par.specs.Figures.{Completes.α_seq, Completes.α_sel, Completes.α_rep, Completes.α_push, Completes.α_neg, Completes.α_try₁, Completes.α_try₂}
use Rattle.par.specs.Figures.{Becomes.∂_silent, Becomes.Silent, Becomes.Ev, Becomes.Neg, Becomes.Push, Becomes.Seq₁, Becomes.Seq₂}
use Rattle.par.specs.Figures.{Becomes.Sel₁, Becomes.Sel₂, Becomes.Sel₃, Becomes.Rep₁, Becomes.Rep₂, Becomes.Try₁, Becomes.Try₂}
use Rattle.par.proofs.Order.{success_waiting, failure_waiting}
use Rattle.par.proofs.Figure3.{other_event, told_apart, completes_value, completes_event, value_completes}

-- ---- whenever a status isn't waiting, what remains is silent

kept_done : (c : Status) (e : Expr) → c ≢ Waiting → kept c e ≡ silent
kept_done Waiting e n = absurd (n refl)
kept_done Success e n = refl
kept_done Failure e n = refl

not_done : (c : Status) (e : Expr) → opposite c ≢ Waiting → kept c e ≡ silent
not_done Waiting e n = absurd (n refl)
not_done Success e n = refl
not_done Failure e n = refl

either_done : (c d : Status) (x y : Expr) → higher c d ≢ Waiting → either_rest c d x y ≡ silent
either_done Waiting Waiting x y n = absurd (n refl)
either_done Waiting Success x y n = refl
either_done Waiting Failure x y n = absurd (n refl)
either_done Success d x y n = refl
either_done Failure Waiting x y n = absurd (n refl)
either_done Failure Success x y n = refl
either_done Failure Failure x y n = refl

try_done : (c d : Status) (x y : Expr) → tried c d ≢ Waiting → try_rest c d x y ≡ silent
try_done Waiting Waiting x y n = absurd (n refl)
try_done Waiting Success x y n = refl
try_done Waiting Failure x y n = absurd (n refl)
try_done Success d x y n = refl
try_done Failure d x y n = refl

then_done : (c : Status) (x y : Expr) → lower c Waiting ≢ Waiting → then_rest c x y ≡ silent
then_done Waiting x y n = absurd (n refl)
then_done Success x y n = absurd (n refl)
then_done Failure x y n = refl

pub finished : (x : Expr) (a : ℕ) → status x a ≢ Waiting → remainder x a ≡ silent
unfolding status remainder
finished silent a n = refl
finished (event b) a n = kept_done (met (eqb b a)) (event b) n
finished (not x) a n = not_done (status x a) (not (remainder x a)) n
finished (either x y) a n = either_done (status x a) (status y a) (remainder x a) (remainder y a) n
finished (then x y) a n = then_done (status x a) (remainder x a) y n
finished (repeat x) a n = then_done (status x a) (remainder x a) (repeat x) n
finished (notify x A) a n = kept_done (status x a) (notify (remainder x a) A) n
finished (try x y) a n = try_done (status x a) (status y a) (remainder x a) (remainder y a) n

-- ---- what the rules give is the function's value

becomes_value : {x x' : Expr} {a : ℕ} → Becomes x a x' → remainder x a ≡ x'
unfolding remainder
becomes_value ∂_silent = refl
becomes_value (Silent {x = x} {a = a} p n) = finished x a (λ e. n (sym (completes_value p) ∙ e))
becomes_value (Ev {a = a} n) = ap (λ t. kept (met t) (event a)) (other_event n)
becomes_value (Neg p q) = ap₂ (λ c e. kept c (not e)) (completes_value p) (becomes_value q)
becomes_value (Push {A = A} p q) = ap₂ (λ c e. kept c (notify e A)) (completes_value p) (becomes_value q)
becomes_value (Seq₁ {y = y} p q) = ap₂ (λ c e. then_rest c e y) (completes_value p) (becomes_value q)
becomes_value (Seq₂ {x = x} {y = y} {a = a} p) = ap (λ c. then_rest c (remainder x a) y) (completes_value p)
becomes_value (Sel₁ {x' = x'} {y = y} {a = a} p p' q q') =
    ap₂ (λ c e. either_rest c (status y a) e (remainder y a)) (completes_value p) (becomes_value p')
    ∙ ap₂ (λ d f. either_rest Waiting d x' f) (completes_value q) (becomes_value q')
becomes_value (Sel₂ {x = x} {y = y} {a = a} p q q') =
    ap (λ c. either_rest c (status y a) (remainder x a) (remainder y a)) (completes_value p)
    ∙ ap₂ (λ d f. either_rest Failure d (remainder x a) f) (completes_value q) (becomes_value q')
becomes_value (Sel₃ {x' = x'} {y = y} {a = a} p p' q) =
    ap₂ (λ c e. either_rest c (status y a) e (remainder y a)) (completes_value p) (becomes_value p')
    ∙ ap (λ d. either_rest Waiting d x' (remainder y a)) (completes_value q)
becomes_value (Rep₁ {x = x} p q) = ap₂ (λ c e. then_rest c e (repeat x)) (completes_value p) (becomes_value q)
becomes_value (Rep₂ {x = x} {a = a} p) = ap (λ c. then_rest c (remainder x a) (repeat x)) (completes_value p)
becomes_value (Try₁ {x' = x'} {y = y} {a = a} p p' q q') =
    ap₂ (λ c e. try_rest c (status y a) e (remainder y a)) (completes_value p) (becomes_value p')
    ∙ ap₂ (λ d f. try_rest Waiting d x' f) (completes_value q) (becomes_value q')
becomes_value (Try₂ {x' = x'} {y = y} {a = a} p p' q) =
    ap₂ (λ c e. try_rest c (status y a) e (remainder y a)) (completes_value p) (becomes_value p')
    ∙ ap (λ d. try_rest Waiting d x' (remainder y a)) (completes_value q)

-- ---- and the rules give it

becomes_event : (b a : ℕ) (t : Bool) → eqb b a ≡ t → Becomes (event b) a (kept (met t) (event b))
becomes_event b a true e = Silent (completes_event b a true e) success_waiting
becomes_event b a false e = Ev (told_apart e)

becomes_not : {x x' : Expr} {a : ℕ} (c : Status) → Completes x a c → Becomes x a x' → Becomes (not x) a (kept c (not x'))
becomes_not Waiting p q = Neg p q
becomes_not Success p q = Silent (α_neg p) failure_waiting
becomes_not Failure p q = Silent (α_neg p) success_waiting

becomes_notify : {x x' : Expr} {a : ℕ} (A : ℕ) (c : Status) → Completes x a c → Becomes x a x'
    → Becomes (notify x A) a (kept c (notify x' A))
becomes_notify A Waiting p q = Push p q
becomes_notify A Success p q = Silent (α_push p) success_waiting
becomes_notify A Failure p q = Silent (α_push p) failure_waiting

becomes_then : {x x' : Expr} {a : ℕ} (y : Expr) (c : Status) → Completes x a c → Becomes x a x' → Becomes (then x y) a (then_rest c x' y)
becomes_then y Waiting p q = Seq₁ p q
becomes_then y Success p q = Seq₂ p
becomes_then y Failure p q = Silent (α_seq p) failure_waiting

becomes_repeat : {x x' : Expr} {a : ℕ} (c : Status) → Completes x a c → Becomes x a x'
    → Becomes (repeat x) a (then_rest c x' (repeat x))
becomes_repeat Waiting p q = Rep₁ p q
becomes_repeat Success p q = Rep₂ p
becomes_repeat Failure p q = Silent (α_rep p) failure_waiting

becomes_either : {x x' y y' : Expr} {a : ℕ} (c d : Status) → Completes x a c → Becomes x a x' → Completes y a d → Becomes y a y'
    → Becomes (either x y) a (either_rest c d x' y')
becomes_either Waiting Waiting p p' q q' = Sel₁ p p' q q'
becomes_either Waiting Success p p' q q' = Silent (α_sel p q) success_waiting
becomes_either Waiting Failure p p' q q' = Sel₃ p p' q
becomes_either Success d p p' q q' = Silent (α_sel p q) success_waiting
becomes_either Failure Waiting p p' q q' = Sel₂ p q q'
becomes_either Failure Success p p' q q' = Silent (α_sel p q) success_waiting
becomes_either Failure Failure p p' q q' = Silent (α_sel p q) failure_waiting

becomes_try : {x x' y y' : Expr} {a : ℕ} (c d : Status) → Completes x a c → Becomes x a x' → Completes y a d → Becomes y a y'
    → Becomes (try x y) a (try_rest c d x' y')
becomes_try Waiting Waiting p p' q q' = Try₁ p p' q q'
becomes_try Waiting Success p p' q q' = Silent (α_try₂ p q) failure_waiting
becomes_try Waiting Failure p p' q q' = Try₂ p p' q
becomes_try Success d p p' q q' = Silent (α_try₁ p success_waiting) success_waiting
becomes_try Failure d p p' q q' = Silent (α_try₁ p failure_waiting) failure_waiting

value_becomes : (x : Expr) (a : ℕ) → Becomes x a (remainder x a)
unfolding remainder
value_becomes silent a = ∂_silent
value_becomes (event b) a = becomes_event b a (eqb b a) refl
value_becomes (not x) a = becomes_not (status x a) (value_completes x a) (value_becomes x a)
value_becomes (either x y) a =
    becomes_either (status x a) (status y a) (value_completes x a) (value_becomes x a) (value_completes y a) (value_becomes y a)
value_becomes (then x y) a = becomes_then y (status x a) (value_completes x a) (value_becomes x a)
value_becomes (repeat x) a = becomes_repeat (status x a) (value_completes x a) (value_becomes x a)
value_becomes (notify x A) a = becomes_notify A (status x a) (value_completes x a) (value_becomes x a)
value_becomes (try x y) a =
    becomes_try (status x a) (status y a) (value_completes x a) (value_becomes x a) (value_completes y a) (value_becomes y a)

pub figure_4 : (x : Expr) (a : ℕ) (x' : Expr) → Becomes x a x' ↔ (remainder x a ≡ x')
figure_4 x a x' = (becomes_value, λ e. subst (λ s. Becomes x a s) e (value_becomes x a))
