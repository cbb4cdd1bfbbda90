-- The number that a rule file is opened with: that of the file, then 8 where the rule's size is above 64, which the capped size decides.
use Prim.Native.Nat.{ℕ, ◌<◌, ◌≤◌}
use mathlib.Core.Path.{◌≡◌, refl}
use mathlib.Core.Logic.{◌≢◌, ◌↔◌}
use mathlib.Core.List.{List}
use native.Mathlib.Omega.{arith}
use borrow.Author.Tests.{eqb-true, eqb-false, ltb-true, ltb-false}
use mathlib.Core.Bool.{cond}
use lib.Dec.{eqb, ltb}
use Rattle.par.specs.declared.Node.{Node}
use Rattle.par.specs.Expr.{size}
use Rattle.par.specs.Records.{expr}
use Rattle.records.proofs.Tests.{cond_case, cond_all}
use Rattle.files.specs.Reading.{reading}
use Rattle.files.specs.Rule.{rule, capped_size, rule_number}
use Rattle.files.proofs.Readings.{reading_number}

pub capped_over : (node : ℕ → Node) (r : ℕ) → (64 < capped_size node r) ↔ (64 < size (expr node r))
unfolding capped_size
capped_over node r = (λ h. omega arith, λ h. omega arith)

-- from the file's number n, and the rule's size z
data Numbered (n z : ℕ) : ℕ → Type 0 where
  refused : n ≢ 0 → Numbered n z n
  large : n ≡ 0 → 64 < z → Numbered n z 8
  runs : n ≡ 0 → z ≤ 64 → Numbered n z 0

numbered : (n z : ℕ) → Numbered n z (cond (eqb n 0) (cond (ltb 64 z) 8 0) n)
numbered n z =
    cond_case (Numbered n z) (eqb n 0) _ n
    (λ e. cond_case (Numbered n z) (ltb 64 z) 8 0 (λ l. large (eqb-true n 0 e) (ltb-true 64 z l)) (λ l. runs (eqb-true n 0 e) (ltb-false 64 z l)))
    (λ e. refused (eqb-false n 0 e))

numbered_8 : {n z k : ℕ} → Numbered n z k → n ≤ 7 → (k ≡ 8) ↔ ((n ≡ 0) × (64 < z))
numbered_8 (refused h) few = (λ e. absurd (omega arith), λ t. absurd (h t.0))
numbered_8 (large e l) few = (λ _. (e, l), λ t. refl)
numbered_8 (runs e l) few = (λ d. absurd (omega arith), λ t. absurd (omega arith))

numbered_0 : {n z k : ℕ} → Numbered n z k → (k ≡ 0) ↔ ((n ≡ 0) × (z ≤ 64))
numbered_0 (refused h) = (λ e. absurd (h e), λ t. absurd (h t.0))
numbered_0 (large e l) = (λ d. absurd (omega arith), λ t. absurd (omega arith))
numbered_0 (runs e l) = (λ _. (e, l), λ t. refl)

numbered_refused : {n z k : ℕ} → Numbered n z k → n ≢ 0 → k ≡ n
numbered_refused (refused h) other = refl
numbered_refused (large e l) other = absurd (other e)
numbered_refused (runs e l) other = absurd (other e)

module _ (s : List ℕ) where
  rule_numbered : Numbered (reading s).number (size (rule s)) (rule_number s)
  unfolding rule_number
  rule_numbered = numbered (reading s).number (size (rule s))

  pub rule_number_8 : (rule_number s ≡ 8) ↔ (((reading s).number ≡ 0) × (64 < size (rule s)))
  rule_number_8 = numbered_8 rule_numbered (reading_number s)

  pub rule_number_0 : (rule_number s ≡ 0) ↔ (((reading s).number ≡ 0) × (size (rule s) ≤ 64))
  rule_number_0 = numbered_0 rule_numbered

  pub rule_number_lem : rule_number s ≤ 8
  unfolding rule_number
  rule_number_lem =
      cond_all (λ k. k ≤ 8) (eqb (reading s).number 0) _ _ (cond_all (λ k. k ≤ 8) (ltb 64 (size (rule s))) 8 0 (omega arith) (omega arith))
      (omega (arith, reading_number s))

  -- a file at fault is refused with its own number
  pub rule_number_refused : (reading s).number ≢ 0 → rule_number s ≡ (reading s).number
  rule_number_refused = numbered_refused rule_numbered
