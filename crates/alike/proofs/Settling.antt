-- The verdict on the events below m, one event further and whole: `first_fault` computes it, and there is no other.
use Prim.Native.Nat.{ℕ, zero, suc, ◌+◌, ◌<◌, ◌≤◌}
use mathlib.Core.Path.{◌≡◌, refl, sym, ◌∙◌, ap, subst}
use mathlib.Core.Logic.{◌≢◌, ◌⊎◌, inl, inr, ⊎_elim}
use native.Mathlib.Omega.{arith}
use native.Mathlib.Nat.{eq-or-lt_of_le}
use native.Mathlib.Numerals.{add-one}
use borrow.Author.Count.{below_more}
use borrow.Author.Tests.{eqb-true, eqb-false}
use lib.Dec.{eqb}
use Rattle.par.specs.Expr.{Expr}
use Rattle.records.proofs.Tests.{cond_case}
use Rattle.files.proofs.Bodies.{Tells, fails, tells_same, tells_and, tells_or, eqb_tells}
use Rattle.alike.specs.Closing.{Closed, Fault}
use Rattle.alike.specs.Verdict.{Outcome, listed, fault_of, first, first_pair, first_fault}
use Rattle.alike.specs.Settled.{ListedRow, RowClosed, RowFault, FirstAt, Settled}
use Rattle.alike.proofs.Faults.{Met, fault_one, closed_faultless, fault_is}

-- ---- `listed` decides whether a pair is listed

listed_less : {left right : ℕ → ℕ} {m p q : ℕ} → ((left m ≡ p) × (right m ≡ q)) ⊎ ListedRow left right m p q → ListedRow left right (suc m) p q
listed_less {m = m} (inl e) = (m, omega arith, e.0, e.1)
listed_less (inr l) = (l.0, omega (arith, l.1), l.2, l.3)

listed_more : (left right : ℕ → ℕ) (m p q : ℕ) → ListedRow left right (suc m) p q → ((left m ≡ p) × (right m ≡ q)) ⊎ ListedRow left right m p q
listed_more left right m p q l =
    below_more (λ i. left i ≡ p → right i ≡ q → ((left m ≡ p) × (right m ≡ q)) ⊎ ListedRow left right m p q) m
    (λ i h e f. inr (i, h, e, f)) (λ e f. inl (e, f)) l.0 (rw add-one l.1) l.2 l.3

pub listed_decides : (left right : ℕ → ℕ) (m p q : ℕ) → Tells (ListedRow left right m p q) (listed left right m p q)
unfolding listed
listed_decides left right zero p q = fails (λ l. omega (arith, l.1))
listed_decides left right (suc m) p q =
    tells_same listed_less (listed_more left right m p q)
    (tells_or (tells_and (eqb_tells (left m) p) (eqb_tells (right m) q)) (listed_decides left right m p q))

-- ---- the first number that is not 0, of c of them from a on

data FirstOf (f : ℕ → ℕ) (a c : ℕ) : ℕ → Type 0 where
  none : ((b : ℕ) → a ≤ b → b < a + c → f b ≡ 0) → FirstOf f a c 0
  some : {k : ℕ} (b : ℕ) → a ≤ b → b < a + c → f b ≡ k → k ≢ 0 → ((i : ℕ) → a ≤ i → i < b → f i ≡ 0) → FirstOf f a c k

module _ (f : ℕ → ℕ) where
  zero_more : (a e : ℕ) → f a ≡ 0 → ((i : ℕ) → suc a ≤ i → i < e → f i ≡ 0) → (i : ℕ) → a ≤ i → i < e → f i ≡ 0
  zero_more a e z rest i l h = ⊎_elim (λ j. ap f (sym j) ∙ z) (λ j. rest i j h) (eq-or-lt_of_le l)

  first_later : {a c k : ℕ} → f a ≡ 0 → FirstOf f (suc a) c k → FirstOf f a (suc c) k
  first_later {a} {c} z (none rest) = none (zero_more a (a + suc c) z (λ i l h. rest i l (omega arith)))
  first_later {a} z (some b l h e n rest) = some b (omega arith) (omega arith) e n (zero_more a b z rest)

  first_of : (c a : ℕ) → FirstOf f a c (first f c a)
  unfolding first
  first_of zero a = none (λ b l h. absurd (omega arith))
  first_of (suc c) a =
      cond_case (FirstOf f a (suc c)) (eqb (f a) 0) _ _ (λ z. first_later (eqb-true (f a) 0 z) (first_of c (suc a)))
      (λ z. some a (omega arith) (omega arith) refl (eqb-false (f a) 0 z) (λ i l h. absurd (omega arith)))

-- ---- what `fault_of` says where it is 0, and where it is not

module _ {E : ℕ → Expr} {n : ℕ} {Listed : ℕ → ℕ → Type 0} {d e : Expr} {a : ℕ} where
  pub met_closed : {k : ℕ} → k ≡ 0 → Met E n Listed d e a k → Closed E n Listed d e a
  met_closed z m = rw z at m

  pub met_fault : (k : ℕ) → k ≢ 0 → Met E n Listed d e a k → Fault E n Listed d e a k
  met_fault zero z m = absurd (z refl)
  met_fault (suc k) z m = m

-- ---- one event further

module _ {E : ℕ → Expr} {n : ℕ} {left right : ℕ → ℕ} {m : ℕ} where
  pub settled_none : Settled E n left right m 0 0 m
  settled_none = record { before = λ i b l h. absurd (omega arith); here = inl (refl, refl) }

  module _ {a k p : ℕ} (v : Settled E n left right m a k p) where
    pub settled_inside : p ≤ m
    settled_inside = ⊎_elim (λ h. omega (arith, h.1)) (λ h. omega (arith, h.inside)) v.here

    -- pairs closed on the events below a, and on a
    both : (i : ℕ) → i ≤ p → ((j : ℕ) → j < i → RowClosed E n left right m j a) → (j b : ℕ) → j < i → b < a + 1 → RowClosed E n left right m j b
    both i w now j b l = below_more (λ b. RowClosed E n left right m j b) a (λ b h. v.before j b (omega arith) h) (now j l) b

    later : {c : ℕ} → a ≤ c → FirstAt E n left right m a p k → FirstAt E n left right m c p k
    later l f = record { inside = f.inside; event = f.event; below = omega (arith, f.below); fault = f.fault; earlier = f.earlier }

    -- no pair before the fault has one on a
    pub settled_same : ((j : ℕ) → j < p → RowClosed E n left right m j a) → Settled E n left right m (a + 1) k p
    settled_same now = record { before = both p (omega arith) now; here = ⊎_elim (λ h. inl h) (λ f. inr (later (omega arith) f)) v.here }

    -- i is the first that has
    pub settled_fault : (i : ℕ) {k : ℕ} → i < p → ((j : ℕ) → j < i → RowClosed E n left right m j a) → RowFault E n left right m i a k
        → Settled E n left right m (a + 1) k i
    settled_fault i l now f =
        record {
          before = both i (omega arith) now;
          here =
              inr (record { inside = omega (arith, settled_inside); event = a; below = omega arith; fault = f; earlier = λ b h. v.before i b l h });
        }

  -- nothing comes before pair 0
  pub settled_early : {a c k p : ℕ} → p ≡ 0 → a ≤ c → Settled E n left right m a k p → Settled E n left right m c k p
  settled_early e l v = record { before = λ i b h. absurd (omega arith); here = ⊎_elim (λ h. inl h) (λ f. inr (later v l f)) v.here }

-- ---- the whole verdict

module _ (E : ℕ → Expr) (n : ℕ) (left right : ℕ → ℕ) (m : ℕ) where
  -- the number of pair i on the event a
  abbrev numbers : ℕ → ℕ → ℕ
  numbers i = fault_of E n (listed left right m) (E (left i)) (E (right i))

  met_at : (i a : ℕ) → Met E n (ListedRow left right m) (E (left i)) (E (right i)) a (numbers i a)
  met_at i a = fault_is E n (ListedRow left right m) (listed left right m) (listed_decides left right m) (E (left i)) (E (right i)) a

  row_first : (i : ℕ) → i < m → {k : ℕ} → FirstOf (numbers i) 0 256 k → k ≢ 0 → FirstAt E n left right m 256 i k
  row_first i l (none z) n' = absurd (n' refl)
  row_first i l (some b g h e n' z) n'' =
      record {
        inside = l;
        event = b;
        below = h;
        fault = subst (RowFault E n left right m i b) e (met_fault (numbers i b) (λ j. n' (sym e ∙ j)) (met_at i b));
        earlier = λ c w. met_closed (z c (omega arith) w) (met_at i c);
      }

  row_closed : (i : ℕ) {k : ℕ} → FirstOf (numbers i) 0 256 k → k ≡ 0 → (a : ℕ) → a < 256 → RowClosed E n left right m i a
  row_closed i (none z) e a h = met_closed (z a (omega arith) h) (met_at i a)
  row_closed i (some b g h e' n' z) e a h' = absurd (n' e)

  abbrev Whole : Outcome → Type 0
  Whole o = Settled E n left right m 256 o.number o.pair

  -- c pairs are left from i on, and those before it are closed
  pairs_settled : (c i : ℕ) → i + c ≡ m → ((j b : ℕ) → j < i → b < 256 → RowClosed E n left right m j b)
      → Whole (first_pair (λ i. first (numbers i) 256 0) c i)
  unfolding first_pair
  pairs_settled zero i e closed = record { before = closed; here = inl (refl, (let d : i ≡ m = omega arith in d)) }
  pairs_settled (suc c) i e closed =
      let f = first_of (numbers i) 256 0 in
      cond_case Whole (eqb (first (numbers i) 256 0) 0) _ _
      (λ z. pairs_settled c (suc i) (omega arith) (λ j b l h.
      below_more (λ j. RowClosed E n left right m j b) i (λ j l. closed j b l h) (row_closed i f (eqb-true _ 0 z) b h) j (rw add-one l)))
      (λ z. record { before = closed; here = inr (row_first i (omega arith) f (eqb-false _ 0 z)) })

  pub first_settled : Settled E n left right m 256 (first_fault E n left right m).number (first_fault E n left right m).pair
  unfolding first_fault
  first_settled = pairs_settled m 0 (omega arith) (λ j b l h. absurd (omega arith))

-- ---- and there is no other, equal expressions having equal record numbers

module _ {E : ℕ → Expr} {n : ℕ} {left right : ℕ → ℕ} {m a : ℕ} (one : (i j : ℕ) → i < n → j < n → E i ≡ E j → i ≡ j) where
  earliest : {i k k' : ℕ} (f : FirstAt E n left right m a i k) (g : FirstAt E n left right m a i k') → f.event < g.event → ⊥
  earliest f g l = closed_faultless E n one (g.earlier f.event l) f.fault

  same_fault : {i k k' : ℕ} → FirstAt E n left right m a i k → FirstAt E n left right m a i k' → k ≡ k'
  same_fault {i} {k} {k'} f g =
      let l = earliest f g in
      let l' = earliest g f in
      let e : f.event ≡ g.event = omega arith in
      fault_one (subst (λ b. RowFault E n left right m i b k) e f.fault) g.fault

  module _ {k k' p p' : ℕ} (v : Settled E n left right m a k p) (w : Settled E n left right m a k' p') where
    -- no verdict passes another's pair
    ahead : p' < p → ⊥
    ahead l =
        let i = settled_inside v in
        ⊎_elim (λ h. omega (arith, h.1)) (λ f. closed_faultless E n one (v.before p' f.event l f.below) f.fault) w.here

    same_number : p ≡ p' → ((k ≡ 0) × (p ≡ m)) ⊎ FirstAt E n left right m a p k → ((k' ≡ 0) × (p' ≡ m)) ⊎ FirstAt E n left right m a p' k' → k ≡ k'
    same_number e (inl h) (inl g) = h.0 ∙ sym g.0
    same_number e (inl h) (inr g) = absurd (omega (arith, h.1, g.inside))
    same_number e (inr h) (inl g) = absurd (omega (arith, g.1, h.inside))
    same_number e (inr h) (inr g) = same_fault h (rw e g)

  pub settled_one : {k k' p p' : ℕ} → Settled E n left right m a k p → Settled E n left right m a k' p' → (k ≡ k') × (p ≡ p')
  settled_one {p = p} {p' = p'} v w =
      let l = ahead v w in
      let l' = ahead w v in
      let e : p ≡ p' = omega arith in
      (same_number v w e v.here w.here, e)
