-- Document 01's table of kinds and lengths.
use Rattle.std.specs.Prelude.{ℕ, Option, Some, None, cond, eqb}
use Rattle.records.specs.declared.Contents.{Contents}
use Rattle.records.specs.declared.Contents.TheVariants.{Expressions, Pairs}
use Rattle.records.specs.declared.Kind.{Kind}
use Rattle.records.specs.declared.Kind.TheVariants.{Construct, Pair, Reserved}

-- silent, event, not, either, then, repeat, notify, try; and a pair
unfoldable pub kind_of : ℕ → Kind
kind_of k =
    cond (eqb k 1) (Construct 4)
    (cond (eqb k 2) (Construct 5)
    (cond (eqb k 3) (Construct 6)
    (cond (eqb k 4) (Construct 8)
    (cond (eqb k 5) (Construct 8)
    (cond (eqb k 6) (Construct 6)
    (cond (eqb k 7) (Construct 8)
    (cond (eqb k 8) (Construct 8)
    (cond (eqb k 16) (Pair 8) Reserved))))))))

-- the length of a record of this kind in a file, where the kind is in the file's list
abbrev pub length_in : Contents → Kind → Option ℕ
length_in Expressions (Construct n) = Some n
length_in Expressions (Pair n) = None
length_in Expressions Reserved = None
length_in Pairs (Construct n) = None
length_in Pairs (Pair n) = Some n
length_in Pairs Reserved = None

-- how many records a file may hold
abbrev pub most_of : Contents → ℕ
most_of Expressions = 1024
most_of Pairs = 256
