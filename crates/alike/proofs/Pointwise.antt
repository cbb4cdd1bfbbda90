-- The first fault depends only on the expressions of the n records, and on the numbers of the m pairs.
use Prim.Native.Nat.{ℕ, zero, suc, ◌+◌, ◌<◌, ◌≤◌}
use mathlib.Core.Path.{◌≡◌, refl, ap₂}
use mathlib.Core.Bool.{Bool, cond}
use native.Mathlib.Omega.{arith}
use native.Mathlib.Decide.{ℕ_discrete}
use lib.Dec.{eqb}
use Rattle.std.specs.Prelude.{Option, Some, None}
use Rattle.par.specs.Expr.{Expr, Expr-discrete}
use Rattle.par.specs.Step.{remainder}
use Rattle.alike.specs.Verdict.{Outcome, outcome, remainders_fault, stand_if, stand_at, listed, fault_of, first, first_pair, first_fault}

first_same : (f g : ℕ → ℕ) → ((a : ℕ) → f a ≡ g a) → (k a : ℕ) → first f k a ≡ first g k a
unfolding first
first_same f g same zero a = refl
first_same f g same (suc k) a = ap₂ (λ v w. cond (eqb v 0) w v) (same a) (first_same f g same k (suc a))

pair_same : (f g : ℕ → ℕ) (m : ℕ) → ((i : ℕ) → i < m → f i ≡ g i) → (k i : ℕ) → i + k ≤ m → first_pair f k i ≡ first_pair g k i
unfolding first_pair
pair_same f g m same zero i l = refl
pair_same f g m same (suc k) i l =
    ap₂ (λ v (w : Outcome). cond (eqb v 0) w (outcome v i)) (same i (omega arith)) (pair_same f g m same k (suc i) (omega arith))

stand_same : (E D : ℕ → Expr) (n : ℕ) → ((r : ℕ) → r < n → E r ≡ D r) → (e : Expr) → stand_at E n e ≡ stand_at D n e
unfolding stand_at
stand_same E D zero same e = refl
stand_same E D (suc n) same e =
    ap₂ (λ d q. stand_if (Expr-discrete ℕ_discrete d e) n q) (same n (omega arith)) (stand_same E D n (λ r h. same r (omega arith)) e)

listed_same : (left right left' right' : ℕ → ℕ) (m : ℕ) → ((i : ℕ) → i < m → (left i ≡ left' i) × (right i ≡ right' i))
    → (p q : ℕ) → listed left right m p q ≡ listed left' right' m p q
unfolding listed
listed_same left right left' right' zero same p q = refl
listed_same left right left' right' (suc m) same p q =
    let e = same m (omega arith) in
    rw (e.0, e.1, listed_same left right left' right' m (λ i h. same i (omega arith)) p q)

-- by which pairs are listed
remainders_same : (lists lists' : ℕ → ℕ → Bool) → ((p q : ℕ) → lists p q ≡ lists' p q) → (p q : Option ℕ)
    → remainders_fault lists p q ≡ remainders_fault lists' p q
remainders_same lists lists' l None q = refl
remainders_same lists lists' l (Some p) None = refl
remainders_same lists lists' l (Some p) (Some q) = rw (l p q)

fault_same : (E D : ℕ → Expr) (n : ℕ) → ((r : ℕ) → r < n → E r ≡ D r)
    → (lists lists' : ℕ → ℕ → Bool) → ((p q : ℕ) → lists p q ≡ lists' p q)
    → (d e : Expr) (a : ℕ) → fault_of E n lists d e a ≡ fault_of D n lists' d e a
unfolding fault_of
fault_same E D n same lists lists' l d e a =
    rw (stand_same E D n same (remainder d a), stand_same E D n same (remainder e a))
    (rw (remainders_same lists lists' l (stand_at D n (remainder d a)) (stand_at D n (remainder e a))))

pub first_fault_same : (E D : ℕ → Expr) (n : ℕ) → ((r : ℕ) → r < n → E r ≡ D r)
    → (left right left' right' : ℕ → ℕ) (m : ℕ) → ((i : ℕ) → i < m → (left i ≡ left' i) × (right i ≡ right' i))
    → ((i : ℕ) → i < m → (left' i < n) × (right' i < n))
    → first_fault E n left right m ≡ first_fault D n left' right' m
unfolding first_fault
first_fault_same E D n same left right left' right' m rows inside =
    pair_same _ _ m (λ i h.
    first_same _ _ (λ a.
    let e = rows i h in
    let w = inside i h in
    rw (e.0, e.1, same (left' i) w.0, same (right' i) w.1)
    (fault_same E D n same (listed left right m) (listed left' right' m) (listed_same left right left' right' m rows) (D (left' i)) (D (right' i)) a))
    256 0) m 0 (omega arith)
