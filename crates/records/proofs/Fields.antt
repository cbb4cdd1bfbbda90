-- A field past the file's end is 0, and a field of two bytes is below 65,536.
use Prim.Native.Nat.{ℕ, ◌+◌, ◌<◌, ◌≤◌}
use mathlib.Core.Path.{◌≡◌, sym}
use mathlib.Core.List.{List}
use native.Mathlib.Omega.{arith}
use lib.ListN.{length, get_or, get_or-eq_default}
use Rattle.records.specs.Fields.{word_at}

pub byte_past : (s : List ℕ) (p k : ℕ) → length s ≤ p + k → 0 ≡ get_or s (p + k) 0
byte_past s p k h = sym (get_or-eq_default s 0 h)

pub word_lt : (s : List ℕ) → ((i : ℕ) → get_or s i 0 < 256) → (p k : ℕ) → word_at s p k < 65536
unfolding word_at
word_lt s small p k = omega (arith, small (p + k), small (p + (k + 1)))
