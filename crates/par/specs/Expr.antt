-- PAR expressions. An event is a number; a notice set is a number, one bit for each recipient, recipient 0 the lowest.
use Rattle.std.specs.Prelude.{ℕ, ◌+◌}
use Rattle.std.specs.Int.Bits.{bit_or}

pub data Expr : Type 0 where
  silent : Expr
  event : ℕ → Expr
  not : Expr → Expr
  either : Expr → Expr → Expr
  then : Expr → Expr → Expr
  repeat : Expr → Expr
  notify : Expr → ℕ → Expr
  try : Expr → Expr → Expr
  deriving Discrete as Expr-discrete

-- the union of two notice sets
unfoldable pub join : ℕ → ℕ → ℕ
join A B = bit_or A B

-- nodes, shared parts written out
unfoldable pub size : Expr → ℕ
size silent = 1
size (event b) = 1
size (not x) = 1 + size x
size (either x y) = 1 + size x + size y
size (then x y) = 1 + size x + size y
size (repeat x) = 1 + size x
size (notify x A) = 1 + size x
size (try x y) = 1 + size x + size y
