-- How a measure of expressions passes to what remains.
use Prim.Native.Nat.{ℕ, ◌≤◌}
use mathlib.Core.List.{List, [], ◌∷◌}
use native.Mathlib.Nat.{le_refl, le_trans}
use Rattle.par.specs.declared.Status.{Status}
use Rattle.par.specs.declared.Status.TheVariants.{Waiting, Success, Failure}
use Rattle.par.specs.Expr.{Expr}
use Rattle.par.specs.Expr.{Expr.silent, Expr.either, Expr.then, Expr.try}
use Rattle.par.specs.Step.{remainder, kept, either_rest, try_rest, then_rest}
use Rattle.par.specs.Feed.{after}

module _ (m : Expr → ℕ) where
  pub kept_le : (c : Status) (e : Expr) {n : ℕ} → m silent ≤ n → m e ≤ n → m (kept c e) ≤ n
  kept_le Waiting e s h = h
  kept_le Success e s h = s
  kept_le Failure e s h = s

  pub then_le : (c : Status) (u y : Expr) {n : ℕ} → m silent ≤ n → m (then u y) ≤ n → m y ≤ n → m (then_rest c u y) ≤ n
  then_le Waiting u y s h k = h
  then_le Success u y s h k = k
  then_le Failure u y s h k = s

  pub either_le : (c d : Status) (u v : Expr) {n : ℕ} → m silent ≤ n → m (either u v) ≤ n → m u ≤ n → m v ≤ n
      → m (either_rest c d u v) ≤ n
  either_le Waiting Waiting u v s h k l = h
  either_le Waiting Success u v s h k l = s
  either_le Waiting Failure u v s h k l = k
  either_le Success d u v s h k l = s
  either_le Failure Waiting u v s h k l = l
  either_le Failure Success u v s h k l = s
  either_le Failure Failure u v s h k l = s

  pub try_le : (c d : Status) (u v : Expr) {n : ℕ} → m silent ≤ n → m (try u v) ≤ n → m u ≤ n → m (try_rest c d u v) ≤ n
  try_le Waiting Waiting u v s h k = h
  try_le Waiting Success u v s h k = s
  try_le Waiting Failure u v s h k = k
  try_le Success d u v s h k = s
  try_le Failure d u v s h k = s

  -- what no step makes greater, no feed makes greater
  pub feed_le : ((e : Expr) (a : ℕ) → m (remainder e a) ≤ m e) → (feed : List ℕ) (e : Expr) → m (after e feed) ≤ m e
  unfolding after
  feed_le h [] e = le_refl (m e)
  feed_le h (a ∷ feed) e = le_trans (feed_le h feed (remainder e a)) (h e a)
