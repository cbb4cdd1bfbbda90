-- What the proofs say of masks: how many nodes stand below one, and what two masks have to do with each other in a span.
use Prim.Native.Nat.{ℕ, zero, suc, ◌+◌, ◌≤◌, ◌<◌}
use mathlib.Core.Path.{◌≡◌}
use mathlib.Core.Bool.{false, cond}
use Rattle.play.specs.Mirror.Masks.{bit}

-- how many of M stand below b
unfoldable pub upto : ℕ → ℕ → ℕ
upto M zero = 0
upto M (suc b) = upto M b + cond (bit M b) 1 0

-- none of A stands in lo .. r
pub record Clear (A lo r : ℕ) : Type 0 where
  pub off : (q : ℕ) → lo ≤ q → q ≤ r → bit A q ≡ false

-- A and B are one in lo .. r
pub record Agree (lo r A B : ℕ) : Type 0 where
  pub at : (q : ℕ) → lo ≤ q → q ≤ r → bit B q ≡ bit A q

-- A and B are one outside lo .. r
pub record Same (lo r A B : ℕ) : Type 0 where
  pub below : (q : ℕ) → q < lo → bit B q ≡ bit A q
  pub above : (q : ℕ) → r < q → bit B q ≡ bit A q

-- A stands in lo .. r
pub record Only (lo r A : ℕ) : Type 0 where
  pub below : (q : ℕ) → q < lo → bit A q ≡ false
  pub above : (q : ℕ) → r < q → bit A q ≡ false
