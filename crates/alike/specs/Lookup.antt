-- What a look-up among the records, and among the pairs, tells.
use Rattle.std.specs.Prelude.{ℕ, ◌<◌, ◌≡◌, List, length, Option, Some, None}
use Rattle.par.specs.declared.Node.{Node}
use Rattle.alike.specs.declared.pair.Pair.{Pair}
use Rattle.alike.specs.Tables.{record_of, pair_of}

-- the number of the record m, if it is there
abbrev pub Looked : List Node → Node → Option ℕ → Type 0
Looked ns m (Some q) = (q < length ns) × (record_of ns q ≡ m)
Looked ns m None = (r : ℕ) → r < length ns → record_of ns r ≡ m → ⊥

-- one of the pairs is this one
abbrev pub Lists : List Pair → Pair → Type 0
Lists ps a = (i : ℕ) × (i < length ps) × (pair_of ps i ≡ a)
