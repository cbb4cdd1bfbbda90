-- Lists that are one below a place, and a list whose places are set one by one from the first: each place is set once, and stays.
use Prim.Native.Nat.{ℕ, zero, suc, ◌≤◌, ◌<◌}
use mathlib.Core.Path.{◌≡◌, refl, ◌∙◌}
use mathlib.Core.Logic.{◌⊎◌, inl, inr}
use mathlib.Core.List.{List}
use native.Mathlib.Nat.{eq-or-lt_of_le}
use native.Mathlib.Omega.{arith}
use lib.ListN.{length, get_or, set, length-set}
use lib.Seq.{get_or-set_same, get_or-set_other}

pub record Keeps (n : ℕ) (P Q : List ℕ) : Type 0 where
  pub long : length Q ≡ length P
  pub below : (i : ℕ) → i < n → get_or Q i 0 ≡ get_or P i 0

pub keeps_self : {n : ℕ} {P : List ℕ} → Keeps n P P
keeps_self = record { long = refl; below = λ i h. refl }

pub keeps_on : {n m : ℕ} {P Q R : List ℕ} → n ≤ m → Keeps n P Q → Keeps m Q R → Keeps n P R
keeps_on h s t = record { long = t.long ∙ s.long; below = λ i l. t.below i (omega arith) ∙ s.below i l }

pub keeps_set : (P : List ℕ) (n v : ℕ) → Keeps n P (set P n v)
keeps_set P n v = record { long = length-set P n v; below = λ i h. get_or-set_other P n i v 0 (omega arith) }

-- ---- a list in its turns: turn n sets place n

module _ (P : ℕ → List ℕ) (v : ℕ → ℕ) (turn : (n : ℕ) → P (suc n) ≡ set (P n) n (v n)) where
  -- what was set stays
  pub turns_keep : (n r : ℕ) → r ≤ n → Keeps r (P r) (P n)
  turns_keep zero r h = let e : r ≡ 0 = omega arith in rw e keeps_self
  turns_keep (suc n) r h = go (turns_keep n r) (eq-or-lt_of_le h)
    where
      go : (r ≤ n → Keeps r (P r) (P n)) → (r ≡ suc n) ⊎ (r < suc n) → Keeps r (P r) (P (suc n))
      go ih (inl e) = rw e keeps_self
      go ih (inr l) = keeps_on {m = n} (omega arith) (ih (omega arith)) (rw (turn n) (keeps_set (P n) n (v n)))

  -- a place whose turn is still to come
  pub turns_ahead : (n i : ℕ) → n ≤ i → get_or (P n) i 0 ≡ get_or (P 0) i 0
  turns_ahead zero i h = refl
  turns_ahead (suc n) i h = rw (turn n) (get_or-set_other (P n) n i (v n) 0 (omega arith)) ∙ turns_ahead n i (omega arith)

  pub turns_set : (n r : ℕ) → r < n → n ≤ length (P 0) → get_or (P n) r 0 ≡ v r
  turns_set n r h few =
      let long = (turns_keep r 0 (omega arith)).long in
      (turns_keep n (suc r) h).below r (omega arith) ∙ rw (turn r) (get_or-set_same (P r) r (v r) 0 (omega arith))
