-- Nodes as they are written out: those of an expression fill the places from lo up to its root, each right behind its last part. F are the nodes, S the
-- notice sets that they gain.
use Prim.Native.Nat.{ℕ, suc, ◌<◌}
use mathlib.Core.Path.{◌≡◌, ◌∙◌}
use mathlib.Core.List.{List}
use native.Mathlib.Omega.{arith}
use lib.ListN.{get_or}
use Rattle.par.specs.Expr.{Expr}
use Rattle.par.specs.Expr.{Expr.silent as Silent, Expr.event as Event, Expr.not as Not, Expr.either as Either}
use Rattle.par.specs.Expr.{Expr.then as Then, Expr.repeat as Repeat, Expr.notify as Notify, Expr.try as Try}
use Rattle.play.specs.Mirror.Nodes.{packed}
use Rattle.ready.proofs.Keeps.{Keeps}

pub data Lays (F S : List ℕ) : ℕ → ℕ → Expr → Type 0 where
  silent : {r : ℕ} → get_or F r 0 ≡ packed 1 0 → Lays F S r r Silent
  event : {r b : ℕ} → get_or F r 0 ≡ packed 2 b → Lays F S r r (Event b)
  not : {lo x : ℕ} {d : Expr} → get_or F (suc x) 0 ≡ packed 3 x → Lays F S lo x d → Lays F S lo (suc x) (Not d)
  either : {lo x y : ℕ} {d e : Expr} → get_or F (suc y) 0 ≡ packed 4 x → x < y → Lays F S lo x d → Lays F S (suc x) y e
      → Lays F S lo (suc y) (Either d e)
  then : {lo x y : ℕ} {d e : Expr} → get_or F (suc y) 0 ≡ packed 5 x → x < y → Lays F S lo x d → Lays F S (suc x) y e
      → Lays F S lo (suc y) (Then d e)
  repeat : {lo x : ℕ} {d : Expr} → get_or F (suc x) 0 ≡ packed 6 x → Lays F S lo x d → Lays F S lo (suc x) (Repeat d)
  notify : {lo x N : ℕ} {d : Expr} → get_or F (suc x) 0 ≡ packed 7 x → get_or S (suc x) 0 ≡ N → Lays F S lo x d
      → Lays F S lo (suc x) (Notify d N)
  try : {lo x y : ℕ} {d e : Expr} → get_or F (suc y) 0 ≡ packed 8 x → x < y → Lays F S lo x d → Lays F S (suc x) y e
      → Lays F S lo (suc y) (Try d e)

-- what is written behind them changes nothing
pub lays_keeps : {F S G T : List ℕ} {n lo r : ℕ} {e : Expr} → Keeps n F G → Keeps n S T → r < n → Lays F S lo r e → Lays G T lo r e
lays_keeps f s h (silent i) = silent (f.below _ h ∙ i)
lays_keeps f s h (event i) = event (f.below _ h ∙ i)
lays_keeps f s h (not i m) = not (f.below _ h ∙ i) (lays_keeps f s (omega arith) m)
lays_keeps f s h (either i l m k) = either (f.below _ h ∙ i) l (lays_keeps f s (omega arith) m) (lays_keeps f s (omega arith) k)
lays_keeps f s h (then i l m k) = then (f.below _ h ∙ i) l (lays_keeps f s (omega arith) m) (lays_keeps f s (omega arith) k)
lays_keeps f s h (repeat i m) = repeat (f.below _ h ∙ i) (lays_keeps f s (omega arith) m)
lays_keeps f s h (notify i j m) = notify (f.below _ h ∙ i) (s.below _ h ∙ j) (lays_keeps f s (omega arith) m)
lays_keeps f s h (try i l m k) = try (f.below _ h ∙ i) l (lays_keeps f s (omega arith) m) (lays_keeps f s (omega arith) k)
