-- What holds of every event and notice set of an expression holds of those of every remainder; so notices stay as narrow as the sets.
use Prim.Native.Nat.{ℕ, ◌<◌, ◌^◌}
use mathlib.Core.List.{List, [], ◌∷◌}
use lib.Bits.{or_lt}
use lib.Pow.{pow_pos}
use lib.Dec.{eqb}
use Rattle.par.specs.declared.Status.{Status}
use Rattle.par.specs.declared.Status.TheVariants.{Waiting, Success, Failure}
use Rattle.par.specs.Expr.{Expr, join}
use Rattle.par.specs.Expr.{Expr.silent, Expr.event, Expr.not, Expr.either, Expr.then, Expr.repeat, Expr.notify, Expr.try}
use Rattle.par.specs.Step.{status, notices, remainder, met, pushed, kept, either_rest, try_rest, then_rest}
use Rattle.par.specs.Feed.{after}
use Rattle.par.specs.Throughout.{Throughout, Any, Fits}

module _ (P Q : ℕ → Type 0) where
  kept_has : (c : Status) (e : Expr) → Throughout P Q e → Throughout P Q (kept c e)
  kept_has Waiting e h = h
  kept_has Success e h = tt
  kept_has Failure e h = tt

  then_has : (c : Status) (u y : Expr) → Throughout P Q u → Throughout P Q y → Throughout P Q (then_rest c u y)
  then_has Waiting u y h k = (h, k)
  then_has Success u y h k = k
  then_has Failure u y h k = tt

  either_has : (c d : Status) (u v : Expr) → Throughout P Q u → Throughout P Q v → Throughout P Q (either_rest c d u v)
  either_has Waiting Waiting u v h k = (h, k)
  either_has Waiting Success u v h k = tt
  either_has Waiting Failure u v h k = h
  either_has Success d u v h k = tt
  either_has Failure Waiting u v h k = k
  either_has Failure Success u v h k = tt
  either_has Failure Failure u v h k = tt

  try_has : (c d : Status) (u v : Expr) → Throughout P Q u → Throughout P Q v → Throughout P Q (try_rest c d u v)
  try_has Waiting Waiting u v h k = (h, k)
  try_has Waiting Success u v h k = tt
  try_has Waiting Failure u v h k = h
  try_has Success d u v h k = tt
  try_has Failure d u v h k = tt

  pub remainder_has : (x : Expr) (a : ℕ) → Throughout P Q x → Throughout P Q (remainder x a)
  unfolding remainder
  remainder_has silent a h = h
  remainder_has (event b) a h = kept_has (met (eqb b a)) (event b) h
  remainder_has (not x) a h = kept_has (status x a) (not (remainder x a)) (remainder_has x a h)
  remainder_has (either x y) a (h, k) =
      either_has (status x a) (status y a) (remainder x a) (remainder y a) (remainder_has x a h) (remainder_has y a k)
  remainder_has (then x y) a (h, k) = then_has (status x a) (remainder x a) y (remainder_has x a h) k
  remainder_has (repeat x) a h = then_has (status x a) (remainder x a) (repeat x) (remainder_has x a h) h
  remainder_has (notify x A) a (h, k) = kept_has (status x a) (notify (remainder x a) A) (remainder_has x a h, k)
  remainder_has (try x y) a (h, k) =
      try_has (status x a) (status y a) (remainder x a) (remainder y a) (remainder_has x a h) (remainder_has y a k)

  pub after_has : (feed : List ℕ) (x : Expr) → Throughout P Q x → Throughout P Q (after x feed)
  unfolding after
  after_has [] x h = h
  after_has (a ∷ feed) x h = after_has feed (remainder x a) (remainder_has x a h)

-- ---- notices have no more bits than the sets

module _ (k : ℕ) where
  pushed_lt : (c : Status) (o A : ℕ) → o < 2 ^ k → A < 2 ^ k → pushed c o A < 2 ^ k
  unfolding join
  pushed_lt Waiting o A h l = h
  pushed_lt Success o A h l = or_lt k o A h l
  pushed_lt Failure o A h l = h

  pub notices_lt : (x : Expr) (a : ℕ) → Fits k x → notices x a < 2 ^ k
  unfolding notices join
  notices_lt silent a h = pow_pos k
  notices_lt (event b) a h = pow_pos k
  notices_lt (not x) a h = notices_lt x a h
  notices_lt (either x y) a (h, l) = or_lt k (notices x a) (notices y a) (notices_lt x a h) (notices_lt y a l)
  notices_lt (then x y) a (h, l) = notices_lt x a h
  notices_lt (repeat x) a h = notices_lt x a h
  notices_lt (notify x A) a (h, l) = pushed_lt (status x a) (notices x a) A (notices_lt x a h) l
  notices_lt (try x y) a (h, l) = or_lt k (notices x a) (notices y a) (notices_lt x a h) (notices_lt y a l)

  pub notices_after_lt : (x : Expr) (feed : List ℕ) (a : ℕ) → Fits k x → notices (after x feed) a < 2 ^ k
  notices_after_lt x feed a h = notices_lt (after x feed) a (after_has Any (λ A. A < 2 ^ k) feed x h)
