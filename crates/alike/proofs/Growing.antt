-- `match_grow`: a record grows into what it matches. `expr_same`: the expressions of n records depend on those records only.
use Prim.Native.Nat.{ℕ, zero, suc, ◌<◌}
use mathlib.Core.Path.{◌≡◌, refl, ap, ap₂, ◌∙◌}
use native.Mathlib.Omega.{arith}
use Rattle.par.specs.declared.Node.{Node}
use Rattle.par.specs.Expr.{Expr}
use Rattle.par.specs.Expr.{Expr.not, Expr.either, Expr.then, Expr.repeat, Expr.notify, Expr.try}
use Rattle.par.specs.Records.{grow, Parts, expr_within, expr}
use Rattle.par.proofs.Records.{Match, Match.m_silent, Match.m_event, Match.m_not, Match.m_either, Match.m_then}
use Rattle.par.proofs.Records.{Match.m_repeat, Match.m_notify, Match.m_try, grown, parts_map}

-- where R says what expression a part is
pub match_grow : {P : ℕ → Type 0} {R : ℕ → Expr → Type 0} (E : ℕ → Expr) → ((p : ℕ) (d : Expr) → P p → R p d → E p ≡ d)
    → {m : Node} {e : Expr} → Match R m e → Parts P m → grow E m ≡ e
match_grow E is m_silent u = refl
match_grow E is m_event u = refl
match_grow E is (m_not f) u = ap not (is _ _ u f)
match_grow E is (m_either f g) u = ap₂ either (is _ _ u.0 f) (is _ _ u.1 g)
match_grow E is (m_then f g) u = ap₂ then (is _ _ u.0 f) (is _ _ u.1 g)
match_grow E is (m_repeat f) u = ap repeat (is _ _ u f)
match_grow E is (m_notify {A = A} f) u = ap (λ (d : Expr). notify d A) (is _ _ u f)
match_grow E is (m_try f g) u = ap₂ try (is _ _ u.0 f) (is _ _ u.1 g)

grow_same : (D E : ℕ → Expr) (m : Node) → Parts (λ p. D p ≡ E p) m → grow D m ≡ grow E m
grow_same D E m u = match_grow D (λ p d h t. h ∙ t.1) (grown E m u) u

module _ (n : ℕ) (node node' : ℕ → Node) (earlier : (r : ℕ) → r < n → Parts (λ p. p < r) (node r))
    (same : (r : ℕ) → r < n → node r ≡ node' r) where
  within_same : (k r : ℕ) → r < n → expr_within node k r ≡ expr_within node' k r
  unfolding expr_within
  within_same zero r h = refl
  within_same (suc k) r h =
      grow_same (expr_within node k) (expr_within node' k) (node r) (parts_map (λ p l. within_same k p (omega arith)) (node r) (earlier r h))
      ∙ ap (grow (expr_within node' k)) (same r h)

  pub expr_same : (r : ℕ) → r < n → expr node r ≡ expr node' r
  unfolding expr
  expr_same r h = within_same (suc r) r h
