-- The verdict on a proposal as a definition that computes: pairs in file order, events ascending, 10 before 11 before 12 before 13.
use Rattle.std.specs.Prelude.{ℕ, zero, suc, Bool, true, false, cond, ◌&&◌, ◌||◌, List, Option, Some, None, eqb, length, get_or, drop}
use Rattle.std.proofs.Math.Decide.{ℕ_discrete}
use Rattle.par.specs.Expr.{Expr, Expr-discrete}
use Rattle.par.specs.Status.{status_byte}
use Rattle.par.specs.Step.{status, notices, remainder}
use Rattle.files.specs.Reading.{reading}
use Rattle.files.specs.Rule.{expr_of}
use Rattle.alike.specs.Proposal.{records, listing, pairs, left_of, right_of, Verdict, verdict}

-- the record that is e, of the first n, if there is one
abbrev pub stand_if : {A : Type 0} → Dec A → ℕ → Option ℕ → Option ℕ
stand_if (yes h) n q = Some n
stand_if (no h) n q = q

unfoldable pub stand_at : (ℕ → Expr) → ℕ → Expr → Option ℕ
stand_at E zero e = None
stand_at E (suc n) e = stand_if (Expr-discrete ℕ_discrete (E n) e) n (stand_at E n e)

-- one of the first m pairs is (p, q)
unfoldable pub listed : (ℕ → ℕ) → (ℕ → ℕ) → ℕ → ℕ → ℕ → Bool
listed left right zero p q = false
listed left right (suc m) p q = (eqb (left m) p && eqb (right m) q) || listed left right m p q

-- 12 where one of two remainders is not in the file, 13 where they are neither one record nor a listed pair, 0 else
abbrev pub remainders_fault : (ℕ → ℕ → Bool) → Option ℕ → Option ℕ → ℕ
remainders_fault lists None q = 12
remainders_fault lists (Some p) None = 12
remainders_fault lists (Some p) (Some q) = cond (eqb p q) 0 (cond (lists p q) 0 13)

-- the first closing condition of d and e that fails at the event a; 0 where none does
unfoldable pub fault_of : (ℕ → Expr) → ℕ → (ℕ → ℕ → Bool) → Expr → Expr → ℕ → ℕ
fault_of E n lists d e a =
    cond (eqb (notices d a) (notices e a))
    (cond (eqb (status_byte (status d a)) (status_byte (status e a)))
    (remainders_fault lists (stand_at E n (remainder d a)) (stand_at E n (remainder e a)))
    11)
    10

-- the first number that is not 0 among f a, f (a + 1), .., k of them
unfoldable pub first : (ℕ → ℕ) → ℕ → ℕ → ℕ
first f zero a = 0
first f (suc k) a = cond (eqb (f a) 0) (first f k (suc a)) (f a)

-- a number and the pair that gets it; 0 and the number of the pairs where none does
pub record Outcome : Type 0 where
  pub number : ℕ
  pub pair : ℕ

abbrev pub outcome : ℕ → ℕ → Outcome
outcome n i = record { number = n; pair = i }

-- the first pair, from i on, k of them, for which g is not 0
unfoldable pub first_pair : (ℕ → ℕ) → ℕ → ℕ → Outcome
first_pair g zero i = outcome 0 i
first_pair g (suc k) i = cond (eqb (g i) 0) (first_pair g k (suc i)) (outcome (g i) i)

-- over m pairs of records of a file of n
unfoldable pub first_fault : (ℕ → Expr) → ℕ → (ℕ → ℕ) → (ℕ → ℕ) → ℕ → Outcome
first_fault E n left right m =
    first_pair (λ i. first (fault_of E n (listed left right m) (E (left i)) (E (right i))) 256 0) m 0

-- ---- on bytes

unfoldable pub closing : List ℕ → List ℕ → Outcome
closing es ps = first_fault (expr_of es) (records es) (left_of es ps) (right_of es ps) (pairs es ps)

-- the expression file's fault, else the pair file's, else that of a pair; 0 stands at the pair file's end
unfoldable pub judged : List ℕ → List ℕ → Verdict
judged es ps =
    cond (eqb (reading es).number 0)
    (cond (eqb (listing es ps).number 0)
    (verdict (closing es ps).number true (get_or (listing es ps).places (closing es ps).pair (length ps)))
    (verdict (listing es ps).number true (listing es ps).place))
    (verdict (reading es).number false (reading es).place)

unfoldable pub shown_of : List ℕ → List ℕ → List ℕ
shown_of es ps = cond (judged es ps).in_pairs (drop (judged es ps).place ps) (drop (judged es ps).place es)
