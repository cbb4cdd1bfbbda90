-- A notice moved inwards, one step. Read from right to left, it is moved outwards.
use Rattle.std.specs.Prelude.{ℕ}
use Rattle.par.specs.Expr.{Expr, join}
use Rattle.par.specs.Expr.{Expr.either, Expr.then, Expr.repeat, Expr.notify, Expr.try}

pub data Moved : Expr → Expr → Type 0 where
  -- notify of notify is notify of the joined sets
  over_notify : {x : Expr} {A B : ℕ} → Moved (notify (notify x A) B) (notify x (join A B))
  -- an empty set changes nothing
  of_none : {x : Expr} → Moved (notify x 0) x
  -- notify over "x then y" is x then notify y
  over_then : {x y : Expr} {A : ℕ} → Moved (notify (then x y) A) (then x (notify y A))
  -- over either it goes to both parts
  over_either : {x y : Expr} {A : ℕ} → Moved (notify (either x y) A) (either (notify x A) (notify y A))
  -- over try it goes to the try part
  over_try : {x y : Expr} {A : ℕ} → Moved (notify (try x y) A) (try (notify x A) y)
  -- over repeat it may be dropped
  over_repeat : {x : Expr} {A : ℕ} → Moved (notify (repeat x) A) (repeat x)
