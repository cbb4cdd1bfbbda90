-- What it means that two expressions behave alike, that one is held in place of the other, and that a list of pairs is closed.
use Rattle.std.specs.Prelude.{ℕ, ◌<◌, ◌≡◌, List, ◌⊎◌}
use Rattle.par.specs.Expr.{Expr}
use Rattle.par.specs.Expr.{Expr.not, Expr.either, Expr.then, Expr.repeat, Expr.notify, Expr.try}
use Rattle.par.specs.Step.{status, notices, remainder}
use Rattle.par.specs.Feed.{notices_on, statuses_on, Bytes}

-- equal notices and equal statuses at every event of every finite feed of bytes
pub record Like (x y : Expr) : Type 0 where
  pub same_notices : (feed : List ℕ) → Bytes feed → notices_on x feed ≡ notices_on y feed
  pub same_statuses : (feed : List ℕ) → Bytes feed → statuses_on x feed ≡ statuses_on y feed

-- u and v differ only in that v holds y where u holds x, at one spot, at several or at none
pub data Swapped (x y : Expr) : Expr → Expr → Type 0 where
  here : Swapped x y x y
  same : {u : Expr} → Swapped x y u u
  in_not : {u v : Expr} → Swapped x y u v → Swapped x y (not u) (not v)
  in_either : {u v s t : Expr} → Swapped x y u v → Swapped x y s t → Swapped x y (either u s) (either v t)
  in_then : {u v s t : Expr} → Swapped x y u v → Swapped x y s t → Swapped x y (then u s) (then v t)
  in_repeat : {u v : Expr} → Swapped x y u v → Swapped x y (repeat u) (repeat v)
  in_notify : {u v : Expr} {A : ℕ} → Swapped x y u v → Swapped x y (notify u A) (notify v A)
  in_try : {u v s t : Expr} → Swapped x y u v → Swapped x y s t → Swapped x y (try u s) (try v t)

-- the closing conditions that x and y meet on the event a, where Listed says which pairs are listed
pub record Closes (Listed : Expr → Expr → Type 0) (x y : Expr) (a : ℕ) : Type 0 where
  pub notices_equal : notices x a ≡ notices y a
  pub statuses_equal : status x a ≡ status y a
  pub remainders : (remainder x a ≡ remainder y a) ⊎ Listed (remainder x a) (remainder y a)

-- every listed pair meets them on every byte
pub record Closed (Listed : Expr → Expr → Type 0) : Type 0 where
  pub closes : (x y : Expr) → Listed x y → (a : ℕ) → a < 256 → Closes Listed x y a
