-- The order of the statuses: `higher` and `lower` are the greater and the lesser, and no two statuses are one.
use Prim.Native.Nat.{min, max}
use mathlib.Core.Path.{◌≡◌, refl, ap}
use mathlib.Core.Logic.{◌≢◌}
use native.Mathlib.Omega.{arith}
use Rattle.par.specs.declared.Status.{Status}
use Rattle.par.specs.declared.Status.TheVariants.{Waiting, Success, Failure}
use Rattle.par.specs.Status.{higher, lower, rank}

pub higher_is_max : (c d : Status) → rank (higher c d) ≡ max (rank c) (rank d)
higher_is_max Waiting Waiting = refl
higher_is_max Waiting Success = refl
higher_is_max Waiting Failure = refl
higher_is_max Success Waiting = refl
higher_is_max Success Success = refl
higher_is_max Success Failure = refl
higher_is_max Failure Waiting = refl
higher_is_max Failure Success = refl
higher_is_max Failure Failure = refl

pub lower_is_min : (c d : Status) → rank (lower c d) ≡ min (rank c) (rank d)
lower_is_min Waiting Waiting = refl
lower_is_min Waiting Success = refl
lower_is_min Waiting Failure = refl
lower_is_min Success Waiting = refl
lower_is_min Success Success = refl
lower_is_min Success Failure = refl
lower_is_min Failure Waiting = refl
lower_is_min Failure Success = refl
lower_is_min Failure Failure = refl

-- ---- statuses are told apart

pub success_waiting : Success ≢ Waiting
success_waiting e = omega (arith, ap rank e)

pub failure_waiting : Failure ≢ Waiting
failure_waiting e = omega (arith, ap rank e)

pub waiting_success : Waiting ≢ Success
waiting_success e = omega (arith, ap rank e)

pub failure_success : Failure ≢ Success
failure_success e = omega (arith, ap rank e)
