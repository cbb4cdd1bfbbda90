-- Document 01's third demand, on bytes: the two expressions of an accepted claim behave alike, and so do any two that differ only in them.
use Prim.Native.Nat.{ℕ, ◌<◌}
use mathlib.Core.Path.{◌≡◌, refl, sym, ◌∙◌, ap}
use mathlib.Core.Logic.{◌⊎◌, inl, inr}
use mathlib.Core.List.{List}
use Rattle.par.specs.Expr.{Expr}
use Rattle.par.specs.Like.{Like, Swapped}
use Rattle.par.specs.Like.{Closes, Closed as ClosedList}
use Rattle.par.proofs.LikeClosed.{closed_like}
use Rattle.par.proofs.LikeSwapped.{swapped_like}
use Rattle.files.specs.Rule.{expr_of}
use Rattle.files.proofs.Accepted.{accepted_pairs}
use Rattle.alike.specs.Closing.{Closed}
use Rattle.alike.specs.Proposal.{records, listing, pairs, left_of, right_of, Listed, Accepted}
use Rattle.alike.specs.Verdict.{judged}
use Rattle.alike.proofs.Judging.{zero_exactly}

-- the expressions of two records that are a listed pair
abbrev Claimed : List ℕ → List ℕ → Expr → Expr → Type 0
Claimed es ps x y = (i : ℕ) × (i < pairs es ps) × (expr_of es (left_of es ps i) ≡ x) × (expr_of es (right_of es ps i) ≡ y)

-- ---- the file's closing conditions are those of a closed list

-- the remainders stand at p and q, which are one record or a listed pair
related : (es ps : List ℕ) {p q : ℕ} {x y : Expr} → expr_of es p ≡ x → expr_of es q ≡ y → (p ≡ q) ⊎ Listed es ps p q → (x ≡ y) ⊎ Claimed es ps x y
related es ps e f (inl h) = inl (sym e ∙ ap (expr_of es) h ∙ f)
related es ps e f (inr l) = inr (l.0, l.1, ap (expr_of es) l.2 ∙ e, ap (expr_of es) l.3 ∙ f)

closes : (es ps : List ℕ) {x y : Expr} {a : ℕ} → Closed (expr_of es) (records es) (Listed es ps) x y a → Closes (Claimed es ps) x y a
closes es ps c =
    record {
      notices_equal = c.same_notices;
      statuses_equal = c.same_status;
      remainders = related es ps c.left_stands.1 c.right_stands.1 c.related;
    }

accepted_closed : (es ps : List ℕ) → Accepted es ps → ClosedList (Claimed es ps)
accepted_closed es ps acc =
    record { closes = λ x y l a h. closes es ps (rw (l.2, l.3) at (acc.closed l.0 a l.1 h)) }

-- ---- so

pub accepted_some : (es ps : List ℕ) → Accepted es ps → 0 < pairs es ps
unfolding listing
accepted_some es ps acc = (accepted_pairs ps (records es) acc.pairs_read).0

-- every listed pair is alike
pub pairs_like : (es ps : List ℕ) → (judged es ps).number ≡ 0 → (i : ℕ) → i < pairs es ps
    → Like (expr_of es (left_of es ps i)) (expr_of es (right_of es ps i))
pairs_like es ps e i h = closed_like (Claimed es ps) (accepted_closed es ps ((zero_exactly es ps).0 e)) _ _ (i, h, refl, refl)

-- the claim, which is the first of them
pub accepted_like : (es ps : List ℕ) → (judged es ps).number ≡ 0 → Like (expr_of es (left_of es ps 0)) (expr_of es (right_of es ps 0))
accepted_like es ps e = pairs_like es ps e 0 (accepted_some es ps ((zero_exactly es ps).0 e))

-- and one may be held for the other anywhere in a larger rule
pub accepted_swapped : (es ps : List ℕ) → (judged es ps).number ≡ 0
    → {u v : Expr} → Swapped (expr_of es (left_of es ps 0)) (expr_of es (right_of es ps 0)) u v → Like u v
accepted_swapped es ps e = swapped_like (accepted_like es ps e)
