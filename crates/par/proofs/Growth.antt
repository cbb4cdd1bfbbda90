-- Of a rule of n nodes at most `most_nodes n` remain, whatever the feed. Of repeats around an event so many remain after any other event.
use Prim.Native.Nat.{ℕ, zero, suc, ◌+◌, ◌*◌, ◌≤◌, max}
use mathlib.Core.Path.{◌≡◌, refl}
use mathlib.Core.List.{List, [], ◌∷◌}
use mathlib.Core.Logic.{◌≢◌}
use native.Mathlib.Omega.{arith}
use native.Mathlib.Nat.{le_refl, mul-le-mul_left, add-mul, mul-add, mul_comm, mul-one, one-mul}
use lib.Dec.{eqb}
use Rattle.par.specs.declared.Status.TheVariants.{Waiting}
use Rattle.par.specs.Expr.{Expr, size}
use Rattle.par.specs.Expr.{Expr.silent, Expr.event, Expr.not, Expr.either, Expr.then, Expr.repeat, Expr.notify, Expr.try}
use Rattle.par.specs.Step.{status, remainder, met}
use Rattle.par.specs.Feed.{after}
use Rattle.par.specs.Growth.{most_nodes, repeats}
use Rattle.par.proofs.Figure3.{other_event}
use Rattle.par.proofs.Measures.{kept_le, then_le, either_le, try_le, feed_le}

-- a size that nothing left of the expression exceeds
bound : Expr → ℕ
bound silent = 1
bound (event b) = 1
bound (not x) = 1 + bound x
bound (either x y) = 1 + bound x + bound y
bound (then x y) = max (1 + bound x + size y) (bound y)
bound (repeat x) = 2 + bound x + size x
bound (notify x A) = 1 + bound x
bound (try x y) = 1 + bound x + bound y

size_bound : (e : Expr) → size e ≤ bound e
unfolding size bound
size_bound silent = le_refl 1
size_bound (event b) = le_refl 1
size_bound (not x) = omega (arith, size_bound x)
size_bound (either x y) = omega (arith, size_bound x, size_bound y)
size_bound (then x y) = omega (arith, size_bound x)
size_bound (repeat x) = omega (arith, size_bound x)
size_bound (notify x A) = omega (arith, size_bound x)
size_bound (try x y) = omega (arith, size_bound x, size_bound y)

bound_falls : (e : Expr) (a : ℕ) → bound (remainder e a) ≤ bound e
unfolding bound remainder size
bound_falls silent a = le_refl 1
bound_falls (event b) a = kept_le bound (met (eqb b a)) (event b) (le_refl 1) (le_refl 1)
bound_falls (not x) a = kept_le bound (status x a) (not (remainder x a)) (omega arith) (omega (arith, bound_falls x a))
bound_falls (either x y) a =
    either_le bound (status x a) (status y a) (remainder x a) (remainder y a) (omega arith)
    (omega (arith, bound_falls x a, bound_falls y a)) (omega (arith, bound_falls x a)) (omega (arith, bound_falls y a))
bound_falls (then x y) a =
    then_le bound (status x a) (remainder x a) y (omega arith) (omega (arith, bound_falls x a)) (omega arith)
bound_falls (repeat x) a =
    then_le bound (status x a) (remainder x a) (repeat x) (omega arith) (omega (arith, bound_falls x a)) (omega arith)
bound_falls (notify x A) a = kept_le bound (status x a) (notify (remainder x a) A) (omega arith) (omega (arith, bound_falls x a))
bound_falls (try x y) a =
    try_le bound (status x a) (status y a) (remainder x a) (remainder y a) (omega arith)
    (omega (arith, bound_falls x a, bound_falls y a)) (omega (arith, bound_falls x a))

square : (p q : ℕ) → (1 + p + q) * (1 + p + q) ≡ p * p + q * q + 2 * (p * q) + 2 * p + 2 * q + 1
square p q = simp (add-mul, mul-add, one-mul, mul-one) (omega (arith, mul_comm q p))

square_one : (p : ℕ) → (1 + p) * (1 + p) ≡ p * p + 2 * p + 1
square_one p = simp (add-mul, mul-add, one-mul, mul-one) (omega arith)

bound_square : (e : Expr) → 2 * bound e + 2 ≤ size e * size e + 3 * size e
unfolding bound size
bound_square silent = le_refl 4
bound_square (event b) = le_refl 4
bound_square (not x) = omega (arith, bound_square x, square_one (size x))
bound_square (either x y) = omega (arith, bound_square x, bound_square y, square (size x) (size y))
bound_square (then x y) = omega (arith, bound_square x, bound_square y, square (size x) (size y))
bound_square (repeat x) = omega (arith, bound_square x, square_one (size x))
bound_square (notify x A) = omega (arith, bound_square x, square_one (size x))
bound_square (try x y) = omega (arith, bound_square x, bound_square y, square (size x) (size y))

pub size_after : (e : Expr) (feed : List ℕ) → size (after e feed) ≤ most_nodes (size e)
size_after e feed = omega (arith, size_bound (after e feed), feed_le bound bound_falls feed e, bound_square e)

-- ---- the bound is reached: each repeat waits, and adds itself behind what remains of its part

pub repeats_size : (b k : ℕ) → size (repeats k (event b)) ≡ suc k
unfolding repeats size
repeats_size b zero = refl
repeats_size b (suc k) = omega (arith, repeats_size b k)

module _ (b a : ℕ) (other : a ≢ b) where
  repeats_wait : (k : ℕ) → status (repeats k (event b)) a ≡ Waiting
  unfolding repeats status
  repeats_wait zero = rw (other_event other)
  repeats_wait (suc k) = rw (repeats_wait k)

  repeats_left : (k : ℕ) → 2 * size (remainder (repeats k (event b)) a) + 2 ≡ suc k * suc k + 3 * suc k
  unfolding repeats size remainder
  repeats_left zero = rw (other_event other)
  repeats_left (suc k) = rw (repeats_wait k) (omega (arith, repeats_size b k, repeats_left k, square_one (suc k)))

  pub size_reached : (k : ℕ) → (size (repeats k (event b)) ≡ suc k) × (size (after (repeats k (event b)) (a ∷ [])) ≡ most_nodes (suc k))
  unfolding after
  size_reached k = (repeats_size b k, omega (arith, repeats_left k))

-- ---- at size 64

pub size_after_64 : (e : Expr) (feed : List ℕ) → size e ≤ 64 → size (after e feed) ≤ 2143
size_after_64 e feed h = omega (arith, size_after e feed, mul-le-mul_left (size e) h)
