-- The records of a file that was read, the rule, and its size.
use Rattle.std.specs.Prelude.{ℕ, ◌+◌, ◌-◌, ◌<◌, min, List, cond, length, get_or, eqb, ltb}
use Rattle.par.specs.declared.Node.{Node}
use Rattle.par.specs.declared.Node.TheVariants.{Silent, Event, Not, Either, Then, Repeat, Notify, Try}
use Rattle.par.specs.Expr.{Expr, size}
use Rattle.par.specs.Records.{Parts, expr}
use Rattle.records.specs.Constructs.{node_at}
use Rattle.files.specs.Reading.{reading}

-- record r of a file whose records stand at the places ps
unfoldable pub node_in : List ℕ → List ℕ → ℕ → Node
node_in s ps r = node_at s (get_or ps r 0)

-- each of the first n records names earlier ones
abbrev pub Earlier : (ℕ → Node) → ℕ → Type 0
Earlier node n = (r : ℕ) → r < n → Parts (λ p. p < r) (node r)

-- the expression of record r of an expression file, and its rule: the last record
unfoldable pub expr_of : List ℕ → ℕ → Expr
expr_of s r = expr (node_in s (reading s).places) r

unfoldable pub rule : List ℕ → Expr
rule s = expr_of s (length (reading s).places - 1)

-- ---- sizes: 65 stands for every size above 64

unfoldable pub capped_size : (ℕ → Node) → ℕ → ℕ
capped_size node r = min 65 (size (expr node r))

-- a record's, from those of its parts
abbrev pub size_from : (ℕ → ℕ) → Node → ℕ
size_from sizes Silent = 1
size_from sizes (Event b) = 1
size_from sizes (Not x) = min 65 (1 + sizes x)
size_from sizes (Either x y) = min 65 (1 + sizes x + sizes y)
size_from sizes (Then x y) = min 65 (1 + sizes x + sizes y)
size_from sizes (Repeat x) = min 65 (1 + sizes x)
size_from sizes (Notify x A) = min 65 (1 + sizes x)
size_from sizes (Try x y) = min 65 (1 + sizes x + sizes y)

-- the number that a rule file is opened with: that of the file, then 8
unfoldable pub rule_number : List ℕ → ℕ
rule_number s = cond (eqb (reading s).number 0) (cond (ltb 64 (size (rule s))) 8 0) (reading s).number
