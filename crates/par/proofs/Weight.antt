-- A step of a rule of size n makes fewer than n nodes and reports at most n lines, whatever went before.
use Prim.Native.Nat.{ℕ, ◌+◌, ◌<◌, ◌≤◌, max}
use mathlib.Core.List.{List}
use native.Mathlib.Omega.{arith}
use native.Mathlib.Nat.{le_refl, le_trans}
use lib.Dec.{eqb}
use Rattle.par.specs.Expr.{Expr, size}
use Rattle.par.specs.Expr.{Expr.silent, Expr.event, Expr.not, Expr.either, Expr.then, Expr.repeat, Expr.notify, Expr.try}
use Rattle.par.specs.Step.{status, remainder, met, lines, made}
use Rattle.par.specs.Feed.{after}
use Rattle.par.proofs.Lines.{try_most}
use Rattle.par.proofs.Measures.{kept_le, then_le, either_le, try_le, feed_le}

-- what a step costs, taken so that no step makes it greater: the second part of `then` counts too, as it may come to step
weight : Expr → ℕ
weight silent = 1
weight (event b) = 1
weight (not x) = weight x + 1
weight (either x y) = weight x + weight y + 1
weight (then x y) = max (weight x + 1) (weight y)
weight (repeat x) = weight x + 1
weight (notify x A) = weight x + 1
weight (try x y) = weight x + weight y + 1

weight_some : (e : Expr) → 1 ≤ weight e
unfolding weight
weight_some silent = le_refl 1
weight_some (event b) = le_refl 1
weight_some (not x) = omega arith
weight_some (either x y) = omega arith
weight_some (then x y) = omega arith
weight_some (repeat x) = omega arith
weight_some (notify x A) = omega arith
weight_some (try x y) = omega arith

weight_size : (e : Expr) → weight e ≤ size e
unfolding weight size
weight_size silent = le_refl 1
weight_size (event b) = le_refl 1
weight_size (not x) = omega (arith, weight_size x)
weight_size (either x y) = omega (arith, weight_size x, weight_size y)
weight_size (then x y) = omega (arith, weight_size x, weight_size y)
weight_size (repeat x) = omega (arith, weight_size x)
weight_size (notify x A) = omega (arith, weight_size x)
weight_size (try x y) = omega (arith, weight_size x, weight_size y)

weight_falls : (e : Expr) (a : ℕ) → weight (remainder e a) ≤ weight e
unfolding weight remainder
weight_falls silent a = le_refl 1
weight_falls (event b) a = kept_le weight (met (eqb b a)) (event b) (le_refl 1) (le_refl 1)
weight_falls (not x) a = kept_le weight (status x a) (not (remainder x a)) (omega arith) (omega (arith, weight_falls x a))
weight_falls (either x y) a =
    either_le weight (status x a) (status y a) (remainder x a) (remainder y a) (omega arith)
    (omega (arith, weight_falls x a, weight_falls y a)) (omega (arith, weight_falls x a)) (omega (arith, weight_falls y a))
weight_falls (then x y) a =
    then_le weight (status x a) (remainder x a) y (omega arith) (omega (arith, weight_falls x a)) (omega arith)
weight_falls (repeat x) a =
    then_le weight (status x a) (remainder x a) (repeat x) (omega arith) (omega (arith, weight_falls x a)) (omega arith)
weight_falls (notify x A) a = kept_le weight (status x a) (notify (remainder x a) A) (omega arith) (omega (arith, weight_falls x a))
weight_falls (try x y) a =
    try_le weight (status x a) (status y a) (remainder x a) (remainder y a) (omega arith)
    (omega (arith, weight_falls x a, weight_falls y a)) (omega (arith, weight_falls x a))

weight_after : (e : Expr) (feed : List ℕ) → weight (after e feed) ≤ size e
weight_after e feed = le_trans (feed_le weight weight_falls feed e) (weight_size e)

made_weight : (e : Expr) → made e < weight e
unfolding made weight
made_weight silent = omega arith
made_weight (event b) = omega arith
made_weight (not x) = omega (arith, made_weight x)
made_weight (either x y) = omega (arith, made_weight x, made_weight y)
made_weight (then x y) = omega (arith, made_weight x)
made_weight (repeat x) = omega (arith, made_weight x)
made_weight (notify x A) = omega (arith, made_weight x)
made_weight (try x y) = omega (arith, made_weight x, made_weight y)

lines_weight : (e : Expr) (a : ℕ) → lines e a ≤ weight e
unfolding lines weight
lines_weight silent a = le_refl 1
lines_weight (event b) a = le_refl 1
lines_weight (not x) a = omega (arith, lines_weight x a)
lines_weight (either x y) a = omega (arith, lines_weight x a, lines_weight y a)
lines_weight (then x y) a = omega (arith, lines_weight x a)
lines_weight (repeat x) a = omega (arith, lines_weight x a)
lines_weight (notify x A) a = omega (arith, lines_weight x a)
lines_weight (try x y) a = omega (arith, lines_weight x a, lines_weight y a, try_most (status x a) (lines x a) (lines y a))

pub made_after : (e : Expr) (feed : List ℕ) → made (after e feed) < size e
made_after e feed = omega (arith, made_weight (after e feed), weight_after e feed)

pub lines_after : (e : Expr) (feed : List ℕ) (a : ℕ) → lines (after e feed) a ≤ size e
lines_after e feed a = le_trans (lines_weight (after e feed) a) (weight_after e feed)
