-- The records of an expression file, and the expression that each stands for. A record names its parts by their numbers.
use Rattle.std.specs.Prelude.{ℕ, zero, suc, ◌<◌, ◌≡◌}
use Rattle.par.specs.declared.Node.{Node}
use Rattle.par.specs.declared.Node.TheVariants.{Silent, Event, Not, Either, Then, Repeat, Notify, Try}
use Rattle.par.specs.Expr.{Expr}
use Rattle.par.specs.Expr.{Expr.silent, Expr.event, Expr.not, Expr.either, Expr.then, Expr.repeat, Expr.notify, Expr.try}

-- the expression of a record, from those of the records that it names
abbrev pub grow : (ℕ → Expr) → Node → Expr
grow e Silent = silent
grow e (Event b) = event b
grow e (Not x) = not (e x)
grow e (Either x y) = either (e x) (e y)
grow e (Then x y) = then (e x) (e y)
grow e (Repeat x) = repeat (e x)
grow e (Notify x A) = notify (e x) A
grow e (Try x y) = try (e x) (e y)

-- P of each record that a record names
abbrev pub Parts : (ℕ → Type 0) → Node → Type 0
Parts P Silent = Unit {0}
Parts P (Event b) = Unit {0}
Parts P (Not x) = P x
Parts P (Either x y) = P x × P y
Parts P (Then x y) = P x × P y
Parts P (Repeat x) = P x
Parts P (Notify x A) = P x
Parts P (Try x y) = P x × P y

-- the expression of record r, its parts followed at most k levels down
unfoldable pub expr_within : (ℕ → Node) → ℕ → ℕ → Expr
expr_within node zero r = silent
expr_within node (suc k) r = grow (expr_within node k) (node r)

-- the expression of record r, where every record names earlier ones: r levels below it there are no parts left
unfoldable pub expr : (ℕ → Node) → ℕ → Expr
expr node r = expr_within node (suc r) r

-- n records, each of which names earlier ones only, and no two of which are equal
pub record File (n : ℕ) (node : ℕ → Node) : Type 0 where
  pub earlier : (r : ℕ) → r < n → Parts (λ p. p < r) (node r)
  pub distinct : (i j : ℕ) → i < n → j < n → node i ≡ node j → i ≡ j
