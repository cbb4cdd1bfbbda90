-- Repeats around an event use as many lines as they have nodes at every step of every feed: they come round for ever.
use Prim.Native.Nat.{ℕ, zero, suc}
use mathlib.Core.Path.{◌≡◌, refl, sym, ◌∙◌}
use mathlib.Core.Bool.{Bool, true, false}
use mathlib.Core.List.{List, [], ◌∷◌}
use mathlib.Core.Logic.{◌≢◌}
use native.Mathlib.Omega.{arith}
use lib.Dec.{eqb}
use Rattle.par.specs.declared.Status.{Status}
use Rattle.par.specs.declared.Status.TheVariants.{Waiting, Success, Failure}
use Rattle.par.specs.Status.{lower}
use Rattle.par.specs.Expr.{Expr, size}
use Rattle.par.specs.Expr.{Expr.silent, Expr.event, Expr.then, Expr.repeat}
use Rattle.par.specs.Step.{status, remainder, lines, met, kept, then_rest}
use Rattle.par.specs.Feed.{after}
use Rattle.par.specs.Growth.{repeats}
use Rattle.par.proofs.Order.{failure_waiting, failure_success}
use Rattle.par.proofs.Growth.{repeats_size}

-- what can remain of k repeats around the event b
data Round (b : ℕ) : ℕ → Expr → Type 0 where
  waits : Round b 0 (event b)
  came : Round b 0 silent
  starts : {k : ℕ} → Round b (suc k) (repeat (repeats k (event b)))
  goes : {k : ℕ} {x : Expr} → Round b k x → Round b (suc k) (then x (repeat (repeats k (event b))))

never_low : (c : Status) → c ≢ Failure → lower c Waiting ≢ Failure
never_low Waiting n e = failure_waiting (sym e)
never_low Success n e = failure_waiting (sym e)
never_low Failure n e = n refl

module _ (b : ℕ) where
  first : (k : ℕ) → Round b k (repeats k (event b))
  unfolding repeats
  first zero = waits
  first (suc k) = starts

  met_round : (t : Bool) → (met t ≢ Failure) × Round b 0 (kept (met t) (event b))
  met_round true = (λ e. failure_success (sym e), came)
  met_round false = (λ e. failure_waiting (sym e), waits)

  next : {k : ℕ} {x : Expr} (c : Status) → c ≢ Failure → Round b k x → Round b (suc k) (then_rest c x (repeat (repeats k (event b))))
  next Waiting n r = goes r
  next Success n r = starts
  next Failure n r = absurd (n refl)

  record Turns (k : ℕ) (x : Expr) (a : ℕ) : Type 0 where
    full : lines x a ≡ suc k
    unfailing : status x a ≢ Failure
    on : Round b k (remainder x a)

  turns : (k : ℕ) {x : Expr} → Round b k x → (a : ℕ) → Turns k x a
  unfolding lines status remainder
  turns zero waits a = let m = met_round (eqb b a) in record { full = refl; unfailing = m.0; on = m.1 }
  turns zero came a = record { full = refl; unfailing = λ e. failure_waiting (sym e); on = came }
  turns (suc k) starts a =
      let t = turns k (first k) a in
      let n = t.unfailing in
      record { full = omega (arith, t.full); unfailing = never_low _ n; on = next _ n t.on }
  turns (suc k) (goes r) a =
      let t = turns k r a in
      let n = t.unfailing in
      record { full = omega (arith, t.full); unfailing = never_low _ n; on = next _ n t.on }

  round_lines : (k : ℕ) {x : Expr} → Round b k x → (feed : List ℕ) (a : ℕ) → lines (after x feed) a ≡ suc k
  unfolding after
  round_lines k r [] a = (turns k r a).full
  round_lines k {x = x} r (c ∷ feed) a = round_lines k {x = remainder x c} (turns k r c).on feed a

  pub lines_reached : (k : ℕ) (feed : List ℕ) (a : ℕ) → lines (after (repeats k (event b)) feed) a ≡ size (repeats k (event b))
  lines_reached k feed a = round_lines k (first k) feed a ∙ sym (repeats_size b k)
