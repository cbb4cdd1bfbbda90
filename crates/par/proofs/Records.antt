-- The expression of a record is grown from those of its parts, and equal expressions have equal record numbers.
use Prim.Native.Nat.{ℕ, zero, suc, ◌<◌, ◌≤◌}
use mathlib.Core.Path.{◌≡◌, refl, sym, ap, ap₂, ◌∙◌, subst}
use native.Mathlib.Omega.{arith}
use Rattle.par.specs.declared.Node.{Node}
use Rattle.par.specs.declared.Node.TheVariants.{Silent, Event, Not, Either, Then, Repeat, Notify, Try}
use Rattle.par.specs.Expr.{Expr}
use Rattle.par.specs.Expr.{Expr.silent, Expr.event, Expr.not, Expr.either, Expr.then, Expr.repeat, Expr.notify, Expr.try}
use Rattle.par.specs.Records.{grow, Parts, expr_within, expr, File}

-- ---- a record and an expression of the same construct, whose parts are related by R

pub data Match (R : ℕ → Expr → Type 0) : Node → Expr → Type 0 where
  m_silent : Match R Silent silent
  m_event : {b : ℕ} → Match R (Event b) (event b)
  m_not : {x : ℕ} {d : Expr} → R x d → Match R (Not x) (not d)
  m_either : {x y : ℕ} {d e : Expr} → R x d → R y e → Match R (Either x y) (either d e)
  m_then : {x y : ℕ} {d e : Expr} → R x d → R y e → Match R (Then x y) (then d e)
  m_repeat : {x : ℕ} {d : Expr} → R x d → Match R (Repeat x) (repeat d)
  m_notify : {x A : ℕ} {d : Expr} → R x d → Match R (Notify x A) (notify d A)
  m_try : {x y : ℕ} {d e : Expr} → R x d → R y e → Match R (Try x y) (try d e)

-- two records that match one expression are one where their parts are
pub same_match : {R S : ℕ → Expr → Type 0} → ((p q : ℕ) (d : Expr) → R p d → S q d → p ≡ q)
    → {m k : Node} {e : Expr} → Match R m e → Match S k e → m ≡ k
same_match only m_silent m_silent = refl
same_match only m_event m_event = refl
same_match only (m_not f) (m_not h) = ap Not (only _ _ _ f h)
same_match only (m_either f f') (m_either h h') = ap₂ Either (only _ _ _ f h) (only _ _ _ f' h')
same_match only (m_then f f') (m_then h h') = ap₂ Then (only _ _ _ f h) (only _ _ _ f' h')
same_match only (m_repeat f) (m_repeat h) = ap Repeat (only _ _ _ f h)
same_match only (m_notify {A = A} f) (m_notify h) = ap (λ (p : ℕ). Notify p A) (only _ _ _ f h)
same_match only (m_try f f') (m_try h h') = ap₂ Try (only _ _ _ f h) (only _ _ _ f' h')

-- a record whose parts have P matches what it grows into
pub grown : {P : ℕ → Type 0} (e : ℕ → Expr) (m : Node) → Parts P m → Match (λ p d. P p × (e p ≡ d)) m (grow e m)
grown e Silent u = m_silent
grown e (Event b) u = m_event
grown e (Not x) u = m_not (u, refl)
grown e (Either x y) u = m_either (u.0, refl) (u.1, refl)
grown e (Then x y) u = m_then (u.0, refl) (u.1, refl)
grown e (Repeat x) u = m_repeat (u, refl)
grown e (Notify x A) u = m_notify (u, refl)
grown e (Try x y) u = m_try (u.0, refl) (u.1, refl)

-- ---- the parts of a record

pub parts_map : {P Q : ℕ → Type 0} (f : (p : ℕ) → P p → Q p) (m : Node) → Parts P m → Parts Q m
parts_map f Silent u = u
parts_map f (Event b) u = u
parts_map f (Not x) u = f x u
parts_map f (Either x y) u = (f x u.0, f y u.1)
parts_map f (Then x y) u = (f x u.0, f y u.1)
parts_map f (Repeat x) u = f x u
parts_map f (Notify x A) u = f x u
parts_map f (Try x y) u = (f x u.0, f y u.1)

grow_same : (d e : ℕ → Expr) (m : Node) → Parts (λ p. d p ≡ e p) m → grow d m ≡ grow e m
grow_same d e Silent u = refl
grow_same d e (Event b) u = refl
grow_same d e (Not x) u = cc
grow_same d e (Either x y) u = cc
grow_same d e (Then x y) u = cc
grow_same d e (Repeat x) u = cc
grow_same d e (Notify x A) u = cc
grow_same d e (Try x y) u = cc

-- ---- n records that name earlier ones

module _ (n : ℕ) (node : ℕ → Node) (earlier : (r : ℕ) → r < n → Parts (λ p. p < r) (node r)) where
  -- following parts further than the record's number makes no difference
  within_same : (k l r : ℕ) → r < k → r < l → r < n → expr_within node k r ≡ expr_within node l r
  unfolding expr_within
  within_same zero l r h g w = absurd (omega arith)
  within_same (suc k) zero r h g w = absurd (omega arith)
  within_same (suc k) (suc l) r h g w =
      grow_same (expr_within node k) (expr_within node l) (node r)
      (parts_map (λ p q. within_same k l p (omega arith) (omega arith) (omega arith)) (node r) (earlier r w))

  pub expr_step : (r : ℕ) → r < n → expr node r ≡ grow (expr node) (node r)
  unfolding expr expr_within
  expr_step r w =
      grow_same (expr_within node r) (expr node) (node r)
      (parts_map (λ p q. within_same r (suc p) p (omega arith) (omega arith) (omega arith)) (node r) (earlier r w))

  -- a record matches its expression, its parts being below any m that is above the record
  matches : (m r : ℕ) → r ≤ m → r < n → Match (λ p d. (p < m) × (expr node p ≡ d)) (node r) (expr node r)
  matches m r l w =
      subst (λ (d : Expr). Match (λ p d. (p < m) × (expr node p ≡ d)) (node r) d) (sym (expr_step r w))
      (grown (expr node) (node r) (parts_map (λ p q. omega arith) (node r) (earlier r w)))

-- ---- the records of a file, no two of which are equal

module _ (n : ℕ) (node : ℕ → Node) (file : File n node) where
  one_below : (m i j : ℕ) → m ≤ n → i < m → j < m → expr node i ≡ expr node j → i ≡ j
  one_below zero i j l h g e = absurd (omega arith)
  one_below (suc m) i j l h g e =
      let match = matches n node file.earlier m in
      file.distinct i j (omega arith) (omega arith)
      (same_match (λ p q d u v. one_below m p q (omega arith) u.0 v.0 (u.1 ∙ sym v.1))
      (subst (Match (λ p d. (p < m) × (expr node p ≡ d)) (node i)) e (match i (omega arith) (omega arith)))
      (match j (omega arith) (omega arith)))

  pub one_record : (i j : ℕ) → i < n → j < n → expr node i ≡ expr node j → i ≡ j
  one_record i j h g e = one_below n i j (omega arith) h g e
