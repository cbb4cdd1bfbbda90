-- Mirror. A mask is a number; node q is in it where its digit q is set.
use Rattle.std.specs.Prelude.{ℕ, ◌+◌, ◌-◌, ◌/◌, ◌%◌, ◌^◌, Bool, not, eqb}
use Rattle.std.specs.Int.Bits.{bit_and, bit_or, bit_xor}

unfoldable pub bit : ℕ → ℕ → Bool
bit A q = eqb (A / 2 ^ q % 2) 1

-- node r alone
unfoldable pub one : ℕ → ℕ
one r = 2 ^ r

-- the nodes of either
unfoldable pub with : ℕ → ℕ → ℕ
with A B = bit_or A B

-- those of A that are not in B
unfoldable pub less : ℕ → ℕ → ℕ
less A B = bit_xor A (bit_and A B)

-- the nodes of both
unfoldable pub both : ℕ → ℕ → ℕ
both A B = bit_and A B

-- the nodes below lo
unfoldable pub below : ℕ → ℕ
below lo = 2 ^ lo - 1

-- the nodes lo .. r
unfoldable pub span : ℕ → ℕ → ℕ
span lo r = less (below r + one r) (below lo)

-- those of A outside lo .. r
unfoldable pub clear : ℕ → ℕ → ℕ → ℕ
clear A lo r = less A (span lo r)

-- whether any of T stands in lo .. r
unfoldable pub hit : ℕ → ℕ → ℕ → Bool
hit T lo r = not (eqb (both T (span lo r)) 0)
