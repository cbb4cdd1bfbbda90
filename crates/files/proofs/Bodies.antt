-- The number that a record's body gets: `expression_body` and `pair_body` compute the one that ExpressionBody and PairBody give.
use Prim.Native.Nat.{ℕ, zero, suc, ◌<◌, ◌≤◌}
use mathlib.Core.Path.{◌≡◌, refl, sym, ◌∙◌}
use mathlib.Core.Logic.{◌⊎◌, ◌⊎◌.inl, ◌⊎◌.inr, ⊎_elim}
use mathlib.Core.List.{List, [], ◌∷◌}
use mathlib.Core.Bool.{Bool, true, false, cond, ◌&&◌, ◌||◌, true≢false}
use native.Mathlib.Omega.{arith}
use borrow.Author.Tests.{eqb-true, eqb-false, leb-true, leb-false}
use lib.ListN.{length, get_or}
use lib.Dec.{leb, eqb}
use Rattle.par.specs.declared.Node.{Node}
use Rattle.par.specs.Nodes.{same_node}
use Rattle.par.specs.Records.{Parts}
use Rattle.par.proofs.Nodes.{same_node_lem}
use Rattle.records.specs.Fields.{word_at}
use Rattle.records.specs.Constructs.{node_at, earlier_in}
use Rattle.records.proofs.Constructs.{earlier_parts}
use Rattle.files.specs.Reading.{ExpressionBody, ExpressionBody.not_earlier, ExpressionBody.same_again, ExpressionBody.new}
use Rattle.files.specs.Reading.{PairBody, PairBody.not_there, PairBody.there}
use Rattle.files.specs.Reading.{seen_in, expression_body, pair_body}

-- ---- what a test tells

pub data Tells (P : Type 0) : Bool → Type 0 where
  holds : P → Tells P true
  fails : (P → ⊥) → Tells P false

pub told : {P : Type 0} (b : Bool) → (b ≡ true → P) × (b ≡ false → P → ⊥) → Tells P b
told true h = holds (h.0 refl)
told false h = fails (h.1 refl)

pub tells_same : {P Q : Type 0} {b : Bool} → (P → Q) → (Q → P) → Tells P b → Tells Q b
tells_same f g (holds p) = holds (f p)
tells_same f g (fails n) = fails (λ q. n (g q))

pub tells_and : {P Q : Type 0} {a b : Bool} → Tells P a → Tells Q b → Tells (P × Q) (a && b)
tells_and (holds p) (holds q) = holds (p, q)
tells_and (holds p) (fails n) = fails (λ h. n h.1)
tells_and (fails n) t = fails (λ h. n h.0)

pub tells_or : {P Q : Type 0} {a b : Bool} → Tells P a → Tells Q b → Tells (P ⊎ Q) (a || b)
tells_or (holds p) t = holds (inl p)
tells_or (fails n) (holds q) = holds (inr q)
tells_or (fails n) (fails m) = fails (⊎_elim n m)

pub eqb_tells : (a b : ℕ) → Tells (a ≡ b) (eqb a b)
eqb_tells a b = told (eqb a b) (eqb-true a b, eqb-false a b)

leb_tells : (a b : ℕ) → Tells (a ≤ b) (leb a b)
leb_tells a b = told (leb a b) (leb-true a b, λ e h. omega (arith, leb-false a b e))

-- ---- whether a record has this kind and body

-- a record at one of the places is m
abbrev Seen : List ℕ → Node → List ℕ → Type 0
Seen s m ps = (j : ℕ) × (j < length ps) × (node_at s (get_or ps j 0) ≡ m)

seen_cases : (s : List ℕ) (m : Node) (p : ℕ) (ps : List ℕ) (j : ℕ) → j < length (p ∷ ps) → node_at s (get_or (p ∷ ps) j 0) ≡ m
    → (node_at s p ≡ m) ⊎ Seen s m ps
seen_cases s m p ps zero h e = inl e
seen_cases s m p ps (suc j) h e = inr (j, omega arith, e)

node_tells : (m k : Node) → Tells (m ≡ k) (same_node m k)
node_tells m k =
    let decides = same_node_lem m k in
    told (same_node m k) (decides.0, λ e same. true≢false (sym (decides.1 same) ∙ e))

seen_tells : (s : List ℕ) (m : Node) (ps : List ℕ) → Tells (Seen s m ps) (seen_in s m ps)
unfolding seen_in
seen_tells s m [] = fails (λ h. let l = h.1 in omega arith)
seen_tells s m (p ∷ ps) =
    tells_same (⊎_elim (λ e. (0, omega arith, e)) (λ h. let l = h.1 in (suc h.0, omega arith, h.2)))
    (λ h. seen_cases s m p ps h.0 h.1 h.2)
    (tells_or (node_tells (node_at s p) m) (seen_tells s m ps))

-- ---- the expression file

module _ (s : List ℕ) (pos : ℕ) (ps : List ℕ) where
  expression_by : {a b : Bool} → Tells (Parts (λ p. p < length ps) (node_at s pos)) a → Tells (Seen s (node_at s pos) ps) b
      → ExpressionBody s pos ps (cond a (cond b 6 0) 5)
  expression_by (holds early) (holds seen) = same_again early seen.0 seen.1 seen.2
  expression_by (holds early) (fails seen) = new early (λ j h e. seen (j, h, e))
  expression_by (fails early) seen = not_earlier early

  pub expression_body_lem : ExpressionBody s pos ps (expression_body s pos ps)
  unfolding expression_body
  expression_body_lem =
      expression_by (told (earlier_in (length ps) (node_at s pos)) (earlier_parts (length ps) (node_at s pos))) (seen_tells s (node_at s pos) ps)

  pub expression_body_one : {n m : ℕ} → ExpressionBody s pos ps n → ExpressionBody s pos ps m → n ≡ m
  expression_body_one (not_earlier a) (not_earlier b) = refl
  expression_body_one (not_earlier a) (same_again b j h e) = absurd (a b)
  expression_body_one (not_earlier a) (new b f) = absurd (a b)
  expression_body_one (same_again b j h e) (not_earlier a) = absurd (a b)
  expression_body_one (same_again b j h e) (same_again b' j' h' e') = refl
  expression_body_one (same_again b j h e) (new b' f) = absurd (f j h e)
  expression_body_one (new b f) (not_earlier a) = absurd (a b)
  expression_body_one (new b f) (same_again b' j h e) = absurd (f j h e)
  expression_body_one (new b f) (new b' f') = refl

  -- what the relation gives is computed
  pub body_is : {n : ℕ} → ExpressionBody s pos ps n → expression_body s pos ps ≡ n
  body_is b = expression_body_one expression_body_lem b

-- ---- the pair file, over an expression file of n records

module _ (s : List ℕ) (n pos : ℕ) (ps : List ℕ) where
  pair_by : {a b : Bool} → Tells (n ≤ word_at s pos 4) a → Tells (n ≤ word_at s pos 6) b → PairBody s n pos ps (cond a 14 (cond b 14 0))
  pair_by (holds a) b = not_there (λ h. omega arith)
  pair_by (fails a) (holds b) = not_there (λ h. omega arith)
  pair_by (fails a) (fails b) = there (omega arith, omega arith)

  pub pair_body_lem : PairBody s n pos ps (pair_body s n pos)
  unfolding pair_body
  pair_body_lem = pair_by (leb_tells n (word_at s pos 4)) (leb_tells n (word_at s pos 6))

  pub pair_body_one : {k m : ℕ} → PairBody s n pos ps k → PairBody s n pos ps m → k ≡ m
  pair_body_one (not_there a) (not_there b) = refl
  pair_body_one (not_there a) (there b) = absurd (a b)
  pair_body_one (there b) (not_there a) = absurd (a b)
  pair_body_one (there a) (there b) = refl
