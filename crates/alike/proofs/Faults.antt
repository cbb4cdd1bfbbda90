-- One pair and one event: it is closed, or it has one fault, and `fault_of` computes which.
use Prim.Native.Nat.{ℕ, zero, suc, ◌<◌, ◌≤◌}
use mathlib.Core.Path.{◌≡◌, refl, sym, ◌∙◌, ap}
use mathlib.Core.Logic.{◌≢◌, ◌⊎◌, inl, inr}
use mathlib.Core.Bool.{Bool, cond}
use native.Mathlib.Omega.{arith}
use native.Mathlib.Decide.{ℕ_discrete}
use native.Mathlib.Numerals.{add-one}
use borrow.Author.Count.{below_more}
use borrow.Author.Tests.{eqb-true, eqb-false}
use lib.Dec.{eqb}
use Rattle.std.specs.Prelude.{Option, Some, None}
use Rattle.par.specs.declared.Status.{Status}
use Rattle.par.specs.declared.Status.TheVariants.{Waiting, Success, Failure}
use Rattle.par.specs.Status.{status_byte}
use Rattle.par.specs.Expr.{Expr, Expr-discrete}
use Rattle.par.specs.Step.{status, notices, remainder}
use Rattle.records.proofs.Tests.{cond_case}
use Rattle.files.proofs.Bodies.{Tells, holds, fails}
use Rattle.alike.specs.Closing.{Stands, Absent, Closed, Fault}
use Rattle.alike.specs.Closing.{Fault.notices_differ, Fault.statuses_differ, Fault.not_in_file, Fault.not_listed}
use Rattle.alike.specs.List.{Placed, Placed.there, Placed.missing}
use Rattle.alike.specs.Verdict.{stand_if, stand_at, remainders_fault, fault_of}

-- ---- a status by its byte

pub status_one : (s t : Status) → status_byte s ≡ status_byte t → s ≡ t
status_one Waiting Waiting e = refl
status_one Waiting Success e = absurd (omega arith)
status_one Waiting Failure e = absurd (omega arith)
status_one Success Waiting e = absurd (omega arith)
status_one Success Success e = refl
status_one Success Failure e = absurd (omega arith)
status_one Failure Waiting e = absurd (omega arith)
status_one Failure Success e = absurd (omega arith)
status_one Failure Failure e = refl

-- ---- where an expression stands

module _ (E : ℕ → Expr) where
  stand_more : (n : ℕ) (e : Expr) {q : Option ℕ} (t : Dec (E n ≡ e)) → Placed E n e q → Placed E (suc n) e (stand_if t n q)
  stand_more n e (yes h) w = there (omega arith, h)
  stand_more n e (no h) (there w) = there (omega (arith, w.0), w.1)
  stand_more n e (no h) (missing w) = missing (λ p l. below_more (λ p. E p ≡ e → ⊥) n w h p (rw add-one l))

  pub stand_placed : (n : ℕ) (e : Expr) → Placed E n e (stand_at E n e)
  unfolding stand_at
  stand_placed zero e = missing (λ p l. absurd (omega arith))
  stand_placed (suc n) e = stand_more n e (Expr-discrete ℕ_discrete (E n) e) (stand_placed n e)

module _ {E : ℕ → Expr} {n : ℕ} {e : Expr} where
  pub placed_absent : {q : Option ℕ} → Placed E n e q → q ≡ None → Absent E n e
  placed_absent (there w) i = cc
  placed_absent (missing w) i = w

  pub placed_stands : {q : Option ℕ} {p : ℕ} → Placed E n e q → q ≡ Some p → Stands E n e p
  placed_stands {p = p} (there {q = k} w) i = let h : k ≡ p = cc in rw h at w
  placed_stands (missing w) i = cc

-- ---- one fault at most

module _ {E : ℕ → Expr} {n : ℕ} {Listed : ℕ → ℕ → Type 0} {d e : Expr} {a : ℕ} where
  pub fault_number : {k : ℕ} → Fault E n Listed d e a k → (10 ≤ k) × (k ≤ 13)
  fault_number (notices_differ f) = (omega arith, omega arith)
  fault_number (statuses_differ g f) = (omega arith, omega arith)
  fault_number (not_in_file g h f) = (omega arith, omega arith)
  fault_number (not_listed g h s t u v) = (omega arith, omega arith)

  pub fault_one : {k m : ℕ} → Fault E n Listed d e a k → Fault E n Listed d e a m → k ≡ m
  fault_one (notices_differ f) (notices_differ g) = refl
  fault_one (notices_differ f) (statuses_differ g g') = absurd (f g)
  fault_one (notices_differ f) (not_in_file g g' w) = absurd (f g)
  fault_one (notices_differ f) (not_listed g g' s t u v) = absurd (f g)
  fault_one (statuses_differ f f') (notices_differ g) = absurd (g f)
  fault_one (statuses_differ f f') (statuses_differ g g') = refl
  fault_one (statuses_differ f f') (not_in_file g g' w) = absurd (f' g')
  fault_one (statuses_differ f f') (not_listed g g' s t u v) = absurd (f' g')
  fault_one (not_in_file f f' w) (notices_differ g) = absurd (g f)
  fault_one (not_in_file f f' w) (statuses_differ g g') = absurd (g' f')
  fault_one (not_in_file f f' w) (not_in_file g g' w') = refl
  fault_one (not_in_file f f' (inl w)) (not_listed g g' {p} {q} s t u v) = absurd (w p s.0 s.1)
  fault_one (not_in_file f f' (inr w)) (not_listed g g' {p} {q} s t u v) = absurd (w q t.0 t.1)
  fault_one (not_listed f f' s t u v) (notices_differ g) = absurd (g f)
  fault_one (not_listed f f' s t u v) (statuses_differ g g') = absurd (g' f')
  fault_one (not_listed f f' {p} {q} s t u v) (not_in_file g g' (inl w)) = absurd (w p s.0 s.1)
  fault_one (not_listed f f' {p} {q} s t u v) (not_in_file g g' (inr w)) = absurd (w q t.0 t.1)
  fault_one (not_listed f f' s t u v) (not_listed g g' s' t' u' v') = refl

-- ---- and none where the pair is closed, equal expressions having equal record numbers

apart : (Listed : ℕ → ℕ → Type 0) {p q r s : ℕ} → p ≡ r → q ≡ s → r ≢ s → (Listed r s → ⊥) → (p ≡ q) ⊎ Listed p q → ⊥
apart Listed i j u v (inl h) = u (sym i ∙ h ∙ j)
apart Listed i j u v (inr l) = v (rw (i, j) at l)

module _ (E : ℕ → Expr) (n : ℕ) (one : (i j : ℕ) → i < n → j < n → E i ≡ E j → i ≡ j) where
  stands_one : {x : Expr} {p q : ℕ} → Stands E n x p → Stands E n x q → p ≡ q
  stands_one {p = p} {q = q} s t = one p q s.0 t.0 (s.1 ∙ sym t.1)

  pub closed_faultless : {Listed : ℕ → ℕ → Type 0} {d e : Expr} {a k : ℕ} → Closed E n Listed d e a → Fault E n Listed d e a k → ⊥
  closed_faultless c (notices_differ f) = f c.same_notices
  closed_faultless c (statuses_differ g f) = f c.same_status
  closed_faultless c (not_in_file g h (inl w)) = w c.p c.left_stands.0 c.left_stands.1
  closed_faultless c (not_in_file g h (inr w)) = w c.q c.right_stands.0 c.right_stands.1
  closed_faultless {Listed} c (not_listed g h s t u v) =
      apart Listed (stands_one c.left_stands s) (stands_one c.right_stands t) u v c.related

-- ---- and `fault_of` gives it

-- what the number k says of d and e on the event a
abbrev pub Met : (ℕ → Expr) → ℕ → (ℕ → ℕ → Type 0) → Expr → Expr → ℕ → ℕ → Type 0
Met E n Listed d e a zero = Closed E n Listed d e a
Met E n Listed d e a (suc k) = Fault E n Listed d e a (suc k)

module _ (E : ℕ → Expr) (n : ℕ) (Listed : ℕ → ℕ → Type 0) (lists : ℕ → ℕ → Bool)
    (decides : (p q : ℕ) → Tells (Listed p q) (lists p q)) (d e : Expr) (a : ℕ) where
  module _ (same : notices d a ≡ notices e a) (same' : status d a ≡ status e a) where
    closed : {p q : ℕ} → Stands E n (remainder d a) p → Stands E n (remainder e a) q → (p ≡ q) ⊎ Listed p q → Closed E n Listed d e a
    closed {p} {q} s t r =
        record { same_notices = same; same_status = same'; p = p; q = q; left_stands = s; right_stands = t; related = r }

    unequal : {p q : ℕ} → Stands E n (remainder d a) p → Stands E n (remainder e a) q → p ≢ q → {b : Bool} → Tells (Listed p q) b
        → Met E n Listed d e a (cond b 0 13)
    unequal s t u (holds l) = closed s t (inr l)
    unequal s t u (fails v) = not_listed same same' s t u v

    remainders : {p q : Option ℕ} → Placed E n (remainder d a) p → Placed E n (remainder e a) q → Met E n Listed d e a (remainders_fault lists p q)
    remainders (missing s) g = not_in_file same same' (inl s)
    remainders (there s) (missing t) = not_in_file same same' (inr t)
    remainders (there {q = p} s) (there {q = q} t) =
        cond_case (Met E n Listed d e a) (eqb p q) _ _ (λ h. closed s t (inl (eqb-true p q h))) (λ h. unequal s t (eqb-false p q h) (decides p q))

  pub fault_is : Met E n Listed d e a (fault_of E n lists d e a)
  unfolding fault_of
  fault_is =
      cond_case (Met E n Listed d e a) (eqb (notices d a) (notices e a)) _ _
      (λ h. cond_case (Met E n Listed d e a) (eqb (status_byte (status d a)) (status_byte (status e a))) _ _
      (λ g. remainders (eqb-true _ _ h) (status_one _ _ (eqb-true _ _ g)) (stand_placed E n (remainder d a)) (stand_placed E n (remainder e a)))
      (λ g. statuses_differ (eqb-true _ _ h) (λ i. eqb-false _ _ g (ap status_byte i))))
      (λ h. notices_differ (eqb-false _ _ h))
