-- Masks that are one outside a range, or inside it.
use Prim.Native.Nat.{ℕ, suc, ◌^◌, ◌≤◌, ◌<◌}
use mathlib.Core.Path.{◌≡◌, refl, ap, ◌∙◌}
use mathlib.Core.Bool.{Bool, true, false}
use native.Mathlib.Omega.{arith}
use lib.Dec.{leb}
use borrow.Author.Tests.{leb-true, leb-false}
use Rattle.play.specs.Mirror.Masks.{bit, one, with, less, clear}
use Rattle.play.proofs.Compared.{Clear, Agree, Same, Only}
use Rattle.play.proofs.Digits.{bit_none, less_other, with_left, bits_small}
use Rattle.play.proofs.Spans.{clear_in, clear_below, clear_above}

pub same_self : {lo r A : ℕ} → Same lo r A A
same_self = record { below = λ q h. refl; above = λ q h. refl }

pub same_on : {lo r A B C : ℕ} → Same lo r A B → Same lo r B C → Same lo r A C
same_on s t = record { below = λ q h. t.below q h ∙ s.below q h; above = λ q h. t.above q h ∙ s.above q h }

pub same_wider : {lo r lo' r' A B : ℕ} → lo ≤ lo' → r' ≤ r → Same lo' r' A B → Same lo r A B
same_wider h k s = record { below = λ q l. s.below q (omega arith); above = λ q l. s.above q (omega arith) }

-- ---- what the operations leave as it is

pub same_clear : (A lo r : ℕ) → Same lo r A (clear A lo r)
same_clear A lo r = record { below = λ q h. clear_below A lo r q h; above = λ q h. clear_above A lo r q h }

pub same_less : {lo : ℕ} (A r : ℕ) → lo ≤ r → Same lo r A (less A (one r))
same_less A r h =
    record {
      below = λ q l. less_other A r q (λ (e : q ≡ r). omega arith);
      above = λ q l. less_other A r q (λ (e : q ≡ r). omega arith);
    }

pub same_with : {lo r : ℕ} (A B : ℕ) → Only lo r B → Same lo r A (with A B)
same_with A B o = record { below = λ q l. with_left A B q (o.below q l); above = λ q l. with_left A B q (o.above q l) }

pub only_wider : {lo r lo' r' A : ℕ} → lo ≤ lo' → r' ≤ r → Only lo' r' A → Only lo r A
only_wider h k o = record { below = λ q l. o.below q (omega arith); above = λ q l. o.above q (omega arith) }

pub only_small : {lo r A : ℕ} → r < 64 → Only lo r A → A < 2 ^ 64
only_small {A = A} h o = bits_small A (λ q k. o.above q (omega arith))

-- ---- what is one in a range

pub agree_self : {lo r A : ℕ} → Agree lo r A A
agree_self = record { at = λ q h k. refl }

pub agree_on : {lo r A B C : ℕ} → Agree lo r A B → Agree lo r B C → Agree lo r A C
agree_on s t = record { at = λ q h k. t.at q h k ∙ s.at q h k }

pub agree_within : {lo r lo' r' A B : ℕ} → lo ≤ lo' → r' ≤ r → Agree lo r A B → Agree lo' r' A B
agree_within h k s = record { at = λ q l m. s.at q (omega arith) (omega arith) }

-- beside what changed
pub agree_before : {lo r lo' r' A B : ℕ} → r' < lo → Same lo r A B → Agree lo' r' A B
agree_before h s = record { at = λ q l m. s.below q (omega arith) }

pub agree_behind : {lo r lo' r' A B : ℕ} → r < lo' → Same lo r A B → Agree lo' r' A B
agree_behind h s = record { at = λ q l m. s.above q (omega arith) }

pub clear_agree : {lo r A B : ℕ} → Agree lo r A B → Clear A lo r → Clear B lo r
clear_agree s c = record { off = λ q h k. s.at q h k ∙ c.off q h k }

pub clear_within : {lo r lo' r' A : ℕ} → lo ≤ lo' → r' ≤ r → Clear A lo r → Clear A lo' r'
clear_within h k c = record { off = λ q l m. c.off q (omega arith) (omega arith) }

pub clear_none : {A lo r : ℕ} → A ≡ 0 → Clear A lo r
clear_none z = record { off = λ q h k. ap (λ (n : ℕ). bit n q) z ∙ bit_none q }

pub clear_clear : (A lo r : ℕ) → Clear (clear A lo r) lo r
clear_clear A lo r = record { off = λ q h k. clear_in A lo r q h k }

-- ---- a range put together

pub clear_one : {A r : ℕ} → bit A r ≡ false → Clear A r r
clear_one {A} {r} i = record { off = λ q h k. let e : q ≡ r = omega arith in rw e i }

-- lo .. x, and then up to r
pub clear_join : {A lo x r : ℕ} → Clear A lo x → Clear A (suc x) r → Clear A lo r
clear_join {A} {lo} {x} {r} c d = record { off = λ q h k. go q h k (leb q x) refl }
  where
    go : (q : ℕ) → lo ≤ q → q ≤ r → (b : Bool) → leb q x ≡ b → bit A q ≡ false
    go q h k true j = c.off q h (leb-true q x j)
    go q h k false j = d.off q (leb-false q x j) k
