-- A list is bytes exactly where each of its places holds one.
use Prim.Native.Nat.{ℕ, zero, suc, ◌<◌}
use mathlib.Core.List.{List, [], ◌∷◌}
use native.Mathlib.Omega.{arith}
use lib.ListN.{get_or}
use Rattle.par.specs.Feed.{Bytes}

pub byte_at : (s : List ℕ) → Bytes s → (i : ℕ) → get_or s i 0 < 256
byte_at [] b i = omega arith
byte_at (v ∷ s) b zero = b.0
byte_at (v ∷ s) b (suc i) = byte_at s b.1 i

pub all_bytes : (s : List ℕ) → ((i : ℕ) → get_or s i 0 < 256) → Bytes s
all_bytes [] small = tt
all_bytes (v ∷ s) small = (small 0, all_bytes s (λ i. small (suc i)))
