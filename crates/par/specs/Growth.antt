-- How many nodes can remain of a rule, and the rules of which so many do.
use Rattle.std.specs.Prelude.{ℕ, zero, suc, ◌+◌, ◌*◌, ◌-◌, ◌/◌}
use Rattle.par.specs.Expr.{Expr}
use Rattle.par.specs.Expr.{Expr.repeat}

-- the most that remain of a rule of n nodes
abbrev pub most_nodes : ℕ → ℕ
most_nodes n = (n * n + 3 * n - 2) / 2

-- k repeats around x
unfoldable pub repeats : ℕ → Expr → Expr
repeats zero x = x
repeats (suc k) x = repeat (repeats k x)
