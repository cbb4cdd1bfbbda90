-- The records of an expression file and the pairs of a pair file, each decoded once, as lists: ns and ps.
use Rattle.std.specs.Prelude.{ℕ, ◌≤◌, ◌<◌, ◌≡◌, List, length, get_or}
use Rattle.std.specs.declared.cmp.Ordering.{Ordering}
use Rattle.std.specs.Ordering.{nat_cmp, ordering_then}
use Rattle.par.specs.declared.Node.{Node}
use Rattle.par.specs.declared.Node.TheVariants.{Silent}
use Rattle.par.specs.Expr.{Expr}
use Rattle.par.specs.Records.{expr, File}
use Rattle.par.specs.Nodes.{node_cmp}
use Rattle.records.specs.Fields.{word_at}
use Rattle.files.specs.Rule.{node_in}
use Rattle.files.specs.Index.{Sorted}
use Rattle.alike.specs.declared.pair.Pair.{Pair}

-- ---- records

-- record r
abbrev pub record_of : List Node → ℕ → Node
record_of ns r = get_or ns r Silent

-- the expression of each
abbrev pub expressions : List Node → ℕ → Expr
expressions ns = expr (record_of ns)

-- they are those of a file: parts before their whole, no two alike
pub record Held (ns : List Node) : Type 0 where
  pub few : length ns ≤ 1024
  pub file : File (length ns) (record_of ns)

-- ix is an index of them
abbrev pub RecordIndex : List Node → List ℕ → Type 0
RecordIndex ns ix = Sorted node_cmp (record_of ns) (length ns) ix (length ix)

-- ---- pairs

abbrev pub pair : ℕ → ℕ → Pair
pair p q = record { left = p; right = q }

-- pair i
abbrev pub pair_of : List Pair → ℕ → Pair
pair_of ps i = get_or ps i (pair 0 0)

-- by the left record, then by the right
abbrev pub pair_cmp : Pair → Pair → Ordering
pair_cmp a b = ordering_then (nat_cmp a.left b.left) (nat_cmp a.right b.right)

abbrev pub PairIndex : List Pair → List ℕ → Type 0
PairIndex ps ix = Sorted pair_cmp (pair_of ps) (length ps) ix (length ix)

-- the records of each
abbrev pub left_in : List Pair → ℕ → ℕ
left_in ps i = (pair_of ps i).left

abbrev pub right_in : List Pair → ℕ → ℕ
right_in ps i = (pair_of ps i).right

-- the records of the pair at each of these places of the file s
abbrev pub left_at : List ℕ → List ℕ → ℕ → ℕ
left_at s at i = word_at s (get_or at i 0) 4

abbrev pub right_at : List ℕ → List ℕ → ℕ → ℕ
right_at s at i = word_at s (get_or at i 0) 6

-- both are among the first n
pub record Within (n : ℕ) (ps : List Pair) : Type 0 where
  pub inside : (i : ℕ) → i < length ps → (left_in ps i < n) × (right_in ps i < n)

-- ---- what `decode`, `split` and `sort` leave

-- what stands behind the places stays, and the length
abbrev pub Kept : {A : Type 0} → (List A → ℕ → A) → List ℕ → List A → List A → Type 0
Kept entry at was xs = (length xs ≡ length was) × ((i : ℕ) → length at ≤ i → entry xs i ≡ entry was i)

-- the records at the places `at` of the file s
abbrev pub Decodes : List ℕ → List ℕ → List Node → Type 0
Decodes s at ns = (r : ℕ) → r < length at → record_of ns r ≡ node_in s at r

-- where no others are
pub record Decoded (s at : List ℕ) (ns : List Node) : Type 0 where
  pub long : length ns ≡ length at
  pub rows : Decodes s at ns

-- the pairs
abbrev pub Splits : List ℕ → List ℕ → List Pair → Type 0
Splits s at ps = (i : ℕ) → i < length at → pair_of ps i ≡ pair (word_at s (get_or at i 0) 4) (word_at s (get_or at i 0) 6)

-- where no others are
pub record Split (s at : List ℕ) (ps : List Pair) : Type 0 where
  pub long : length ps ≡ length at
  pub rows : Splits s at ps

-- an index of the pairs with m entries
pub record SortedInto (ps : List Pair) (ix : List ℕ) (m : ℕ) : Type 0 where
  pub few : m ≤ length ps
  pub room : m ≤ length ix
  pub sorted : Sorted pair_cmp (pair_of ps) (length ps) ix m
