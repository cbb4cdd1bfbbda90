-- `join` is the union of two notice sets, and the laws of unions.
use Prim.Native.Nat.{ℕ, ◌+◌, ◌*◌, ◌/◌, ◌%◌, ◌^◌, max}
use mathlib.Core.Path.{◌≡◌, refl, sym, ap, ap₂, ◌∙◌}
use native.Mathlib.Omega.{arith}
use lib.Arith.{bin_ind}
use lib.Bits.{bit_or, or_step, or_shr, or_comm, or_self, or_zero_l, or_zero_r}
use Rattle.par.specs.Expr.{join}

-- the lowest digit, and the others, of a union
or_half : (a b : ℕ) → bit_or a b / 2 ≡ bit_or (a / 2) (b / 2)
or_half a b = omega (arith, or_step a b)

or_low : (a b : ℕ) → bit_or a b % 2 ≡ max (a % 2) (b % 2)
or_low a b = omega (arith, or_step a b)

or_assoc : (a b c : ℕ) → bit_or a (bit_or b c) ≡ bit_or (bit_or a b) c
or_assoc =
    bin_ind (λ (n : ℕ). (b c : ℕ) → bit_or n (bit_or b c) ≡ bit_or (bit_or n b) c) (λ b c. refl)
    (λ n ih b c.
    or_step n (bit_or b c)
    ∙ ap₂ (λ (x y : ℕ). x * 2 + y)
    (ap (bit_or (n / 2)) (or_half b c) ∙ ih (b / 2) (c / 2) ∙ ap (λ (x : ℕ). bit_or x (c / 2)) (sym (or_half n b)))
    (omega (arith, or_low b c, or_low n b))
    ∙ sym (or_step (bit_or n b) c))

-- recipient i is in the union exactly where it is in one of the two
pub join_recipient : (A B i : ℕ) → join A B / 2 ^ i % 2 ≡ max (A / 2 ^ i % 2) (B / 2 ^ i % 2)
unfolding join
join_recipient A B i = ap (λ (n : ℕ). n % 2) (or_shr A B i) ∙ or_low (A / 2 ^ i) (B / 2 ^ i)

pub join_assoc : (A B C : ℕ) → join A (join B C) ≡ join (join A B) C
unfolding join
join_assoc A B C = or_assoc A B C

pub join_comm : (A B : ℕ) → join A B ≡ join B A
unfolding join
join_comm A B = or_comm A B

pub join_self : (A : ℕ) → join A A ≡ A
unfolding join
join_self A = or_self A

pub join_none : (A : ℕ) → join A 0 ≡ A
unfolding join
join_none A = or_zero_r A

pub none_join : (A : ℕ) → join 0 A ≡ A
unfolding join
none_join A = or_zero_l A

-- a set joined to a union is joined to its first part, or to both parts
pub join_out : (o p A : ℕ) → join (join o p) A ≡ join (join o A) p
join_out o p A = sym (join_assoc o p A) ∙ ap (join o) (join_comm p A) ∙ join_assoc o A p

pub join_both : (o p A : ℕ) → join (join o p) A ≡ join (join o A) (join p A)
join_both o p A =
    ap (join (join o p)) (sym (join_self A)) ∙ join_assoc (join o p) A A
    ∙ ap (λ (n : ℕ). join n A) (join_out o p A) ∙ sym (join_assoc (join o A) p A)
