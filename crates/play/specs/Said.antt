-- What a reader must believe of what remains: the expression that the nodes in play and the repeats under way say, read off the nodes.
use Rattle.std.specs.Prelude.{ℕ, zero, suc, ◌+◌, ◌-◌, cond, List, eqb}
use Rattle.par.specs.Expr.{Expr}
use Rattle.par.specs.Expr.{Expr.silent as Silent, Expr.event as Event, Expr.not as Not, Expr.either as Either}
use Rattle.par.specs.Expr.{Expr.then as Then, Expr.repeat as Repeat, Expr.notify as Notify, Expr.try as Try}
use Rattle.play.specs.Mirror.Masks.{bit, hit}
use Rattle.play.specs.Mirror.Nodes.{kind_at, first_at, gain_at}

-- node r of this kind, where `go A W lo r` says its parts; g is what it gains
abbrev pub saying : (ℕ → ℕ → ℕ → ℕ → Expr) → ℕ → ℕ → ℕ → ℕ → ℕ → ℕ → ℕ → Expr
saying go kind g x A W lo r =
    cond (eqb kind 1) Silent
    (cond (eqb kind 2) (Event x)
    (cond (eqb kind 3) (Not (go A W lo x))
    (cond (eqb kind 7) (Notify (go A W lo x) g)
    (cond (eqb kind 6) (cond (bit W r) (Then (go A W lo x) (Repeat (go g 0 lo x))) (Repeat (go A W lo x)))
    (cond (eqb kind 5) (cond (bit A r) (Then (go A W lo x) (go g 0 (x + 1) (r - 1))) (go A W (x + 1) (r - 1)))
    (cond (eqb kind 4)
    (cond (bit A r) (Either (go A W lo x) (go A W (x + 1) (r - 1))) (cond (hit A lo x) (go A W lo x) (go A W (x + 1) (r - 1))))
    (cond (bit A r) (Try (go A W lo x) (go A W (x + 1) (r - 1))) (go A W lo x))))))))

-- the first argument is above r
module _ (F G : List ℕ) where
  unfoldable pub said : ℕ → ℕ → ℕ → ℕ → ℕ → Expr
  said zero A W lo r = Silent
  said (suc f) A W lo r = saying (said f) (kind_at F r) (gain_at G r) (first_at F r) A W lo r

-- of a whole rule whose last node is root: where no node is in play it has completed
unfoldable pub remains : List ℕ → List ℕ → ℕ → ℕ → ℕ → Expr
remains F G root A W = cond (eqb A 0) Silent (said F G (suc root) A W 0 root)
