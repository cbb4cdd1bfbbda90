-- The two files (document 01, "Expression file", "Pair file"): what a record's body must meet, and what reading the whole file finds.
use Rattle.std.specs.Prelude.{ℕ, ◌<◌, ◌≡◌, ◌≢◌, List, [], ◌∷◌, Bool, false, cond, ◌||◌, length, get_or, leb}
use Rattle.par.specs.declared.Node.{Node}
use Rattle.par.specs.Nodes.{same_node}
use Rattle.par.specs.Records.{Parts}
use Rattle.records.specs.declared.Contents.TheVariants.{Expressions, Pairs}
use Rattle.records.specs.Fields.{word_at}
use Rattle.records.specs.Constructs.{node_at, earlier_in}
use Rattle.records.specs.Walk.{Found, turn, walked}

-- ---- the expression file

-- 5: x or y isn't an earlier record; 6: same kind and body as an earlier record
pub data ExpressionBody (s : List ℕ) (pos : ℕ) (ps : List ℕ) : ℕ → Type 0 where
  not_earlier : (Parts (λ p. p < length ps) (node_at s pos) → ⊥) → ExpressionBody s pos ps 5
  same_again : Parts (λ p. p < length ps) (node_at s pos) → (j : ℕ) → j < length ps → node_at s (get_or ps j 0) ≡ node_at s pos
      → ExpressionBody s pos ps 6
  new : Parts (λ p. p < length ps) (node_at s pos) → ((j : ℕ) → j < length ps → node_at s (get_or ps j 0) ≢ node_at s pos)
      → ExpressionBody s pos ps 0

-- a record at one of the places has this kind and body
unfoldable pub seen_in : List ℕ → Node → List ℕ → Bool
seen_in s m [] = false
seen_in s m (p ∷ ps) = same_node (node_at s p) m || seen_in s m ps

unfoldable pub expression_body : List ℕ → ℕ → List ℕ → ℕ
expression_body s pos ps = cond (earlier_in (length ps) (node_at s pos)) (cond (seen_in s (node_at s pos) ps) 6 0) 5

unfoldable pub reading : List ℕ → Found
reading s = walked (turn s Expressions (expression_body s)) (length s)

-- ---- the pair file, over an expression file of n records

-- 14: a pair names a record that isn't there
pub data PairBody (s : List ℕ) (n pos : ℕ) (ps : List ℕ) : ℕ → Type 0 where
  not_there : ((word_at s pos 4 < n) × (word_at s pos 6 < n) → ⊥) → PairBody s n pos ps 14
  there : (word_at s pos 4 < n) × (word_at s pos 6 < n) → PairBody s n pos ps 0

unfoldable pub pair_body : List ℕ → ℕ → ℕ → ℕ
pair_body s n pos = cond (leb n (word_at s pos 4)) 14 (cond (leb n (word_at s pos 6)) 14 0)

unfoldable pub reading_pairs : List ℕ → ℕ → Found
reading_pairs s n = walked (turn s Pairs (λ pos ps. pair_body s n pos)) (length s)
