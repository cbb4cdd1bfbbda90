-- Which expression is in play. The nodes of node r fill the places from lo up to r, its first part's before its second's, and r stands right behind.
use Prim.Native.Nat.{ℕ, suc, ◌≤◌, ◌<◌}
use mathlib.Core.Path.{◌≡◌}
use mathlib.Core.Bool.{true, false}
use mathlib.Core.List.{List}
use Rattle.par.specs.Expr.{Expr}
use Rattle.par.specs.Expr.{Expr.silent as Silent, Expr.event as Event, Expr.not as Not, Expr.either as Either}
use Rattle.par.specs.Expr.{Expr.then as Then, Expr.repeat as Repeat, Expr.notify as Notify, Expr.try as Try}
use Rattle.play.specs.Mirror.Masks.{bit}
use Rattle.play.proofs.Compared.{Clear, Only}
use Rattle.play.specs.Mirror.Nodes.{kind_at, first_at, gain_at}

-- node r is of this kind and has no part; it is its only node
pub record None (F : List ℕ) (kind r : ℕ) : Type 0 where
  pub kind_is : kind_at F r ≡ kind

-- the node behind x is of this kind and has the part x
pub record One (F : List ℕ) (L kind lo x : ℕ) : Type 0 where
  pub kind_is : kind_at F (suc x) ≡ kind
  pub first_is : first_at F (suc x) ≡ x
  pub no_event : bit L (suc x) ≡ false
  pub within : lo ≤ x
  pub few : suc x < 64

-- the node behind y is of this kind and has the parts x and y
pub record Two (F : List ℕ) (L kind lo x y : ℕ) : Type 0 where
  pub kind_is : kind_at F (suc y) ≡ kind
  pub first_is : first_at F (suc y) ≡ x
  pub no_event : bit L (suc y) ≡ false
  pub within : lo ≤ x
  pub apart : x < y
  pub few : suc y < 64

-- the nodes F and what they gain G, of which L are the events and R the repeats; A are the nodes in play, W the repeats that go on in their bodies.
-- What a then and a repeat gain plays what comes next, afresh.
pub data Plays (F G : List ℕ) (L R : ℕ) : ℕ → ℕ → ℕ → ℕ → Expr → Type 0 where
  silent : {A W r : ℕ} → None F 1 r → bit L r ≡ false → bit A r ≡ true → Plays F G L R A W r r Silent
  event : {A W r b : ℕ} → None F 2 r → bit L r ≡ true → first_at F r ≡ b → bit A r ≡ true → Plays F G L R A W r r (Event b)
  not : {A W lo x : ℕ} {d : Expr} → One F L 3 lo x → bit A (suc x) ≡ true → Plays F G L R A W lo x d → Plays F G L R A W lo (suc x) (Not d)
  notify : {A W lo x N : ℕ} {d : Expr} → One F L 7 lo x → bit A (suc x) ≡ true → gain_at G (suc x) ≡ N → Plays F G L R A W lo x d
      → Plays F G L R A W lo (suc x) (Notify d N)
  repeat_fresh : {A W lo x : ℕ} {e : Expr} → One F L 6 lo x → bit R (suc x) ≡ true → bit A (suc x) ≡ true → bit W (suc x) ≡ false
      → Plays F G L R A W lo x e → Plays F G L R (gain_at G (suc x)) 0 lo x e → Only lo x (gain_at G (suc x))
      → Plays F G L R A W lo (suc x) (Repeat e)
  repeat_going : {A W lo x : ℕ} {d e : Expr} → One F L 6 lo x → bit R (suc x) ≡ true → bit A (suc x) ≡ true → bit W (suc x) ≡ true
      → Plays F G L R A W lo x d → Plays F G L R (gain_at G (suc x)) 0 lo x e → Only lo x (gain_at G (suc x))
      → Plays F G L R A W lo (suc x) (Then d (Repeat e))
  either_both : {A W lo x y : ℕ} {d e : Expr} → Two F L 4 lo x y → bit A (suc y) ≡ true → Plays F G L R A W lo x d
      → Plays F G L R A W (suc x) y e → Plays F G L R A W lo (suc y) (Either d e)
  either_first : {A W lo x y : ℕ} {d : Expr} → Two F L 4 lo x y → bit A (suc y) ≡ false → Plays F G L R A W lo x d → Clear A (suc x) y
      → Plays F G L R A W lo (suc y) d
  either_second : {A W lo x y : ℕ} {e : Expr} → Two F L 4 lo x y → bit A (suc y) ≡ false → Clear A lo x → Plays F G L R A W (suc x) y e
      → Plays F G L R A W lo (suc y) e
  then_first : {A W lo x y : ℕ} {d e : Expr} → Two F L 5 lo x y → bit A (suc y) ≡ true → Plays F G L R A W lo x d → Clear A (suc x) y
      → Plays F G L R (gain_at G (suc y)) 0 (suc x) y e → Only (suc x) y (gain_at G (suc y)) → Plays F G L R A W lo (suc y) (Then d e)
  then_second : {A W lo x y : ℕ} {e : Expr} → Two F L 5 lo x y → bit A (suc y) ≡ false → Clear A lo x → Plays F G L R A W (suc x) y e
      → Plays F G L R A W lo (suc y) e
  try_both : {A W lo x y : ℕ} {d e : Expr} → Two F L 8 lo x y → bit A (suc y) ≡ true → Plays F G L R A W lo x d
      → Plays F G L R A W (suc x) y e → Plays F G L R A W lo (suc y) (Try d e)
  try_first : {A W lo x y : ℕ} {d : Expr} → Two F L 8 lo x y → bit A (suc y) ≡ false → Plays F G L R A W lo x d → Clear A (suc x) y
      → Plays F G L R A W lo (suc y) d

-- ---- a whole rule

-- what the nodes in play of a rule say; where none is in play the rule has completed
pub data Stands (F G : List ℕ) (L R root : ℕ) : ℕ → ℕ → Expr → Type 0 where
  goes : {A W : ℕ} {e : Expr} → Plays F G L R A W 0 root e → Only 0 root A → Stands F G L R root A W e
  over : {A W : ℕ} → A ≡ 0 → Stands F G L R root A W Silent
