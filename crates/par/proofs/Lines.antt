-- `lines` counts the rules of figure 3 that a step uses: as many as stand in any derivation of its status.
use Prim.Native.Nat.{ℕ, ◌+◌, ◌≤◌}
use mathlib.Core.Path.{◌≡◌, refl, ap, ap₂, ◌∙◌}
use mathlib.Core.Logic.{◌≢◌}
use native.Mathlib.Omega.{arith}
use Rattle.par.specs.declared.Status.{Status}
use Rattle.par.specs.declared.Status.TheVariants.{Waiting, Success, Failure}
use Rattle.par.specs.Expr.{Expr}
use Rattle.par.specs.Step.{try_lines, lines}
use Rattle.par.specs.Figures.{Completes, rules_used}
use Rattle.par.specs.Figures.{Completes.α_silent, Completes.α_ev₁, Completes.α_ev₂, Completes.α_seq, Completes.α_sel}
use Rattle.par.specs.Figures.{Completes.α_rep, Completes.α_push, Completes.α_neg, Completes.α_try₁, Completes.α_try₂}
use Rattle.par.proofs.Figure3.{completes_value}

-- one more line, and the lines of two parts and one more
more : {n m : ℕ} → n ≡ m → n + 1 ≡ m + 1
more = ap (λ n. n + 1)

both : {n m k l : ℕ} → n ≡ m → k ≡ l → n + k + 1 ≡ m + l + 1
both = ap₂ (λ n k. n + k + 1)

-- a try counts both its parts and one more at most
pub try_most : (s : Status) (n m : ℕ) → try_lines s n m ≤ n + m + 1
try_most Waiting n m = omega arith
try_most Success n m = omega arith
try_most Failure n m = omega arith

-- one whose first part completed counts that part's lines alone
try_done : (c : Status) (n m : ℕ) → c ≢ Waiting → try_lines c n m ≡ n + 1
try_done Waiting n m h = absurd (h refl)
try_done Success n m h = refl
try_done Failure n m h = refl

pub lines_are_rules : {x : Expr} {a : ℕ} {c : Status} (p : Completes x a c) → lines x a ≡ rules_used p
unfolding lines rules_used
lines_are_rules α_silent = refl
lines_are_rules α_ev₁ = refl
lines_are_rules (α_ev₂ n) = refl
lines_are_rules (α_seq p) = more (lines_are_rules p)
lines_are_rules (α_sel p q) = both (lines_are_rules p) (lines_are_rules q)
lines_are_rules (α_rep p) = more (lines_are_rules p)
lines_are_rules (α_push p) = more (lines_are_rules p)
lines_are_rules (α_neg p) = more (lines_are_rules p)
lines_are_rules (α_try₁ {x = x} {y = y} {a = a} {c = c} p n) =
    rw (completes_value p) (try_done c (lines x a) (lines y a) n ∙ more (lines_are_rules p))
lines_are_rules (α_try₂ p q) = rw (completes_value p) (both (lines_are_rules p) (lines_are_rules q))
