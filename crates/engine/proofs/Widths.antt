-- The notices of a file's rule fit a record, so nothing of them is lost when they are narrowed.
use Prim.Native.Nat.{ℕ, ◌-◌}
use mathlib.Core.Path.{◌≡◌}
use mathlib.Core.List.{List}
use native.Mathlib.Nat.{mod-eq_of_lt}
use native.Mathlib.Omega.{arith}
use lib.ListN.{length}
use Rattle.par.specs.Expr.{Expr}
use Rattle.par.specs.Expr.{Expr.silent, Expr.event, Expr.not, Expr.either, Expr.then, Expr.repeat, Expr.notify, Expr.try}
use Rattle.par.specs.Step.{notices}
use Rattle.par.specs.Feed.{Bytes}
use Rattle.par.specs.Throughout.{Fits, Writable}
use Rattle.par.proofs.Throughout.{notices_lt}
use Rattle.files.specs.Reading.{reading}
use Rattle.files.specs.Rule.{expr_of, rule, rule_number}
use Rattle.files.proofs.Accepted.{accepted_range, accepted_some}
use Rattle.files.proofs.RuleNumbers.{rule_number_0}
use Rattle.engine.specs.Mirror.Desk.{narrowed}
use Rattle.engine.proofs.Bytes.{byte_at}

writable_fits : (k : ℕ) (x : Expr) → Writable k x → Fits k x
writable_fits k silent w = tt
writable_fits k (event b) w = tt
writable_fits k (not x) w = writable_fits k x w
writable_fits k (either x y) (w, v) = (writable_fits k x w, writable_fits k y v)
writable_fits k (then x y) (w, v) = (writable_fits k x w, writable_fits k y v)
writable_fits k (repeat x) w = writable_fits k x w
writable_fits k (notify x A) (w, v) = (writable_fits k x w, v)
writable_fits k (try x y) (w, v) = (writable_fits k x w, writable_fits k y v)

pub rule_narrow : (s : List ℕ) → Bytes s → rule_number s ≡ 0 → Fits 16 (rule s)
unfolding rule
rule_narrow s b e =
    let some = accepted_some s ((rule_number_0 s).0 e).0 in
    writable_fits 16 (expr_of s (length (reading s).places - 1)) (accepted_range s (byte_at s b) (length (reading s).places - 1) (omega arith))

pub narrow_notices : (x : Expr) (a : ℕ) → Fits 16 x → narrowed (notices x a) ≡ notices x a
narrow_notices x a fits = mod-eq_of_lt (notices_lt 16 x a fits)
