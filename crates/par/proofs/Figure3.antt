-- Figure 3 holds of exactly the value of `status`.
use Prim.Native.Nat.{ℕ}
use mathlib.Core.Path.{◌≡◌, refl, sym, ap, ap₂, ◌∙◌, subst}
use mathlib.Core.Bool.{Bool, true, false}
use mathlib.Core.Logic.{◌≢◌, ◌↔◌}
use lib.Dec.{T, eqb, eqb→eq, eqb_refl}
use Rattle.par.specs.declared.Status.{Status}
use Rattle.par.specs.declared.Status.TheVariants.{Waiting, Success, Failure}
use Rattle.par.specs.Status.{opposite, higher, lower, tried}
use Rattle.par.specs.Expr.{Expr}
use Rattle.par.specs.Expr.{Expr.silent, Expr.event, Expr.not, Expr.either, Expr.then, Expr.repeat, Expr.notify, Expr.try}
use Rattle.par.specs.Step.{status, met}
use Rattle.par.specs.Figures.{Completes}
use Rattle.par.specs.Figures.{Completes.α_silent, Completes.α_ev₁, Completes.α_ev₂, Completes.α_seq, Completes.α_sel}
use Rattle.par.specs.Figures.{Completes.α_rep, Completes.α_push, Completes.α_neg, Completes.α_try₁, Completes.α_try₂}
use Rattle.par.proofs.Order.{success_waiting, failure_waiting}

-- ---- the test of two events

true_of : (b : Bool) → T b → b ≡ true
true_of true t = refl
true_of false t = absurd t

false_of : (b : Bool) → ¬ T b → b ≡ false
false_of true t = absurd (t tt)
false_of false t = refl

same_event : (a : ℕ) → eqb a a ≡ true
same_event a = true_of (eqb a a) (eqb_refl a)

pub other_event : {a b : ℕ} → b ≢ a → eqb a b ≡ false
other_event {a} {b} n = false_of (eqb a b) (λ t. n (sym (eqb→eq a b t)))

pub told_apart : {a b : ℕ} → eqb a b ≡ false → b ≢ a
told_apart {a} e p = subst T (ap (eqb a) (sym p) ∙ e) (eqb_refl a)

-- ---- what the rules give is the function's value

-- a try whose first part completed has that part's status
tried_done : (c d : Status) → c ≢ Waiting → tried c d ≡ c
tried_done Waiting d n = absurd (n refl)
tried_done Success d n = refl
tried_done Failure d n = refl

pub completes_value : {x : Expr} {a : ℕ} {c : Status} → Completes x a c → status x a ≡ c
unfolding status
completes_value α_silent = refl
completes_value (α_ev₁ {a = a}) = ap met (same_event a)
completes_value (α_ev₂ n) = ap met (other_event n)
completes_value (α_seq p) = ap (λ c. lower c Waiting) (completes_value p)
completes_value (α_sel p q) = ap₂ higher (completes_value p) (completes_value q)
completes_value (α_rep p) = ap (λ c. lower c Waiting) (completes_value p)
completes_value (α_push p) = completes_value p
completes_value (α_neg p) = ap opposite (completes_value p)
completes_value (α_try₁ {y = y} {a = a} {c = c} p n) =
    ap (λ s. tried s (status y a)) (completes_value p) ∙ tried_done c (status y a) n
completes_value (α_try₂ p q) = ap₂ tried (completes_value p) (completes_value q)

-- ---- and the rules give it

pub completes_event : (b a : ℕ) (t : Bool) → eqb b a ≡ t → Completes (event b) a (met t)
completes_event b a true e = subst (λ n. Completes (event b) n Success) (eqb→eq b a (rw e tt)) α_ev₁
completes_event b a false e = α_ev₂ (told_apart e)

-- the two rules for try, as the one table
pub completes_try : {x y : Expr} {a : ℕ} (c d : Status) → Completes x a c → Completes y a d → Completes (try x y) a (tried c d)
completes_try Waiting d p q = α_try₂ p q
completes_try Success d p q = α_try₁ p success_waiting
completes_try Failure d p q = α_try₁ p failure_waiting

pub value_completes : (x : Expr) (a : ℕ) → Completes x a (status x a)
unfolding status
value_completes silent a = α_silent
value_completes (event b) a = completes_event b a (eqb b a) refl
value_completes (not x) a = α_neg (value_completes x a)
value_completes (either x y) a = α_sel (value_completes x a) (value_completes y a)
value_completes (then x y) a = α_seq (value_completes x a)
value_completes (repeat x) a = α_rep (value_completes x a)
value_completes (notify x A) a = α_push (value_completes x a)
value_completes (try x y) a = completes_try (status x a) (status y a) (value_completes x a) (value_completes y a)

pub figure_3 : (x : Expr) (a : ℕ) (c : Status) → Completes x a c ↔ (status x a ≡ c)
figure_3 x a c = (completes_value, λ e. subst (λ s. Completes x a s) e (value_completes x a))
