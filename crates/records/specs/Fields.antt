-- Fields of a record: little-endian numbers at an offset from the record's first byte. Bytes past the end count as 0.
use Rattle.std.specs.Prelude.{ℕ, ◌+◌, ◌*◌, List, get_or}

-- the number of the two bytes k places after p
unfoldable pub word_at : List ℕ → ℕ → ℕ → ℕ
word_at s p k = get_or s (p + k) 0 + 256 * get_or s (p + (k + 1)) 0
