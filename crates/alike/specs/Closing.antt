-- The closing conditions (document 01, "Pair file and the closing conditions"), over a file of n records whose expressions E gives, where
-- Listed says which pairs of record numbers are listed.
use Rattle.std.specs.Prelude.{ℕ, ◌<◌, ◌≡◌, ◌≢◌, ◌⊎◌}
use Rattle.par.specs.Expr.{Expr}
use Rattle.par.specs.Step.{status, notices, remainder}

-- record p is e; no record is e
abbrev pub Stands : (ℕ → Expr) → ℕ → Expr → ℕ → Type 0
Stands E n e p = (p < n) × (E p ≡ e)

abbrev pub Absent : (ℕ → Expr) → ℕ → Expr → Type 0
Absent E n e = (p : ℕ) → p < n → E p ≡ e → ⊥

module _ (E : ℕ → Expr) (n : ℕ) (Listed : ℕ → ℕ → Type 0) where
  -- the conditions that d and e meet on the event a
  pub record Closed (d e : Expr) (a : ℕ) : Type 0 where
    pub same_notices : notices d a ≡ notices e a
    pub same_status : status d a ≡ status e a
    pub p : ℕ
    pub q : ℕ
    pub left_stands : Stands E n (remainder d a) p
    pub right_stands : Stands E n (remainder e a) q
    pub related : (p ≡ q) ⊎ Listed p q

  -- the first of them that fails, by its number
  pub data Fault (d e : Expr) (a : ℕ) : ℕ → Type 0 where
    notices_differ : notices d a ≢ notices e a → Fault d e a 10
    statuses_differ : notices d a ≡ notices e a → status d a ≢ status e a → Fault d e a 11
    not_in_file : notices d a ≡ notices e a → status d a ≡ status e a
        → Absent E n (remainder d a) ⊎ Absent E n (remainder e a) → Fault d e a 12
    not_listed : notices d a ≡ notices e a → status d a ≡ status e a
        → {p q : ℕ} → Stands E n (remainder d a) p → Stands E n (remainder e a) q
        → p ≢ q → (Listed p q → ⊥) → Fault d e a 13
