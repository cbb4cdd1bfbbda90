-- An expression in play has its places, and something in play in them; and which it is rests on the nodes in play there only.
use Prim.Native.Nat.{ℕ, ◌≤◌}
use mathlib.Core.Path.{◌≡◌, sym, ◌∙◌}
use mathlib.Core.Bool.{true, true≢false}
use mathlib.Core.List.{List}
use native.Mathlib.Omega.{arith}
use Rattle.par.specs.Expr.{Expr}
use Rattle.play.specs.Mirror.Masks.{bit}
use Rattle.play.proofs.Compared.{Clear, Agree}
use Rattle.play.proofs.Plays.{Plays}
use Rattle.play.proofs.Plays.{Plays.silent, Plays.event, Plays.not, Plays.notify, Plays.repeat_fresh, Plays.repeat_going}
use Rattle.play.proofs.Plays.{Plays.either_both, Plays.either_first, Plays.either_second, Plays.then_first, Plays.then_second}
use Rattle.play.proofs.Plays.{Plays.try_both, Plays.try_first}
use Rattle.play.proofs.Ranges.{agree_within, clear_agree, clear_within}

module _ {F G : List ℕ} {L R : ℕ} where
  pub in_range : {A W lo r : ℕ} {e : Expr} → Plays F G L R A W lo r e → lo ≤ r
  in_range (silent at l p) = omega arith
  in_range (event at l i p) = omega arith
  in_range (not at p m) = omega arith
  in_range (notify at p i m) = omega arith
  in_range (repeat_fresh at i p w m g o) = omega arith
  in_range (repeat_going at i p w m g o) = omega arith
  in_range (either_both at p m n) = omega arith
  in_range (either_first at p m c) = omega arith
  in_range (either_second at p c n) = omega arith
  in_range (then_first at p m c g o) = omega arith
  in_range (then_second at p c n) = omega arith
  in_range (try_both at p m n) = omega arith
  in_range (try_first at p m c) = omega arith

  -- something is in play in its places
  pub some_in : {A W lo r : ℕ} {e : Expr} → Plays F G L R A W lo r e → Clear A lo r → ⊥
  some_in {r = r} (silent at l p) c = true≢false (sym p ∙ c.off r (omega arith) (omega arith))
  some_in {r = r} (event at l i p) c = true≢false (sym p ∙ c.off r (omega arith) (omega arith))
  some_in (not at p m) c = some_in m (clear_within (omega arith) (omega arith) c)
  some_in (notify at p i m) c = some_in m (clear_within (omega arith) (omega arith) c)
  some_in (repeat_fresh at i p w m g o) c = some_in m (clear_within (omega arith) (omega arith) c)
  some_in (repeat_going at i p w m g o) c = some_in m (clear_within (omega arith) (omega arith) c)
  some_in (either_both at p m n) c = some_in m (clear_within (omega arith) (omega arith) c)
  some_in (either_first at p m k) c = some_in m (clear_within (omega arith) (omega arith) c)
  some_in (either_second at p k n) c = some_in n (clear_within (omega arith) (omega arith) c)
  some_in (then_first at p m k g o) c = some_in m (clear_within (omega arith) (omega arith) c)
  some_in (then_second at p k n) c = some_in n (clear_within (omega arith) (omega arith) c)
  some_in (try_both at p m n) c = some_in m (clear_within (omega arith) (omega arith) c)
  some_in (try_first at p m k) c = some_in m (clear_within (omega arith) (omega arith) c)

-- U goes on where W does, for the nodes of A in lo .. r
pub record Goes (lo r A W U : ℕ) : Type 0 where
  pub at : (q : ℕ) → lo ≤ q → q ≤ r → bit A q ≡ true → bit U q ≡ bit W q

pub goes_within : {lo r lo' r' A W U : ℕ} → lo ≤ lo' → r' ≤ r → Goes lo r A W U → Goes lo' r' A W U
goes_within h k s = record { at = λ q l m. s.at q (omega arith) (omega arith) }

pub goes_agree : {lo r A W U : ℕ} → Agree lo r W U → Goes lo r A W U
goes_agree s = record { at = λ q h k i. s.at q h k }

module _ {F G : List ℕ} {L R : ℕ} where
  pub frame : {A B W U lo r : ℕ} {e : Expr} → Agree lo r A B → Goes lo r A W U → Plays F G L R A W lo r e → Plays F G L R B U lo r e
  frame {r = r} h v (silent at l p) = silent at l (h.at r (omega arith) (omega arith) ∙ p)
  frame {r = r} h v (event at l i p) = event at l i (h.at r (omega arith) (omega arith) ∙ p)
  frame {r = r} h v (not at p m) =
      not at (h.at r (omega arith) (omega arith) ∙ p)
      (frame (agree_within (omega arith) (omega arith) h) (goes_within (omega arith) (omega arith) v) m)
  frame {r = r} h v (notify at p i m) =
      notify at (h.at r (omega arith) (omega arith) ∙ p) i
      (frame (agree_within (omega arith) (omega arith) h) (goes_within (omega arith) (omega arith) v) m)
  frame {r = r} h v (repeat_fresh at i p w m g o) =
      repeat_fresh at i (h.at r (omega arith) (omega arith) ∙ p) (v.at r (omega arith) (omega arith) p ∙ w)
      (frame (agree_within (omega arith) (omega arith) h) (goes_within (omega arith) (omega arith) v) m) g o
  frame {r = r} h v (repeat_going at i p w m g o) =
      repeat_going at i (h.at r (omega arith) (omega arith) ∙ p) (v.at r (omega arith) (omega arith) p ∙ w)
      (frame (agree_within (omega arith) (omega arith) h) (goes_within (omega arith) (omega arith) v) m) g o
  frame {r = r} h v (either_both at p m n) =
      either_both at (h.at r (omega arith) (omega arith) ∙ p)
      (frame (agree_within (omega arith) (omega arith) h) (goes_within (omega arith) (omega arith) v) m)
      (frame (agree_within (omega arith) (omega arith) h) (goes_within (omega arith) (omega arith) v) n)
  frame {r = r} h v (try_both at p m n) =
      try_both at (h.at r (omega arith) (omega arith) ∙ p)
      (frame (agree_within (omega arith) (omega arith) h) (goes_within (omega arith) (omega arith) v) m)
      (frame (agree_within (omega arith) (omega arith) h) (goes_within (omega arith) (omega arith) v) n)
  frame {r = r} h v (either_first at p m c) =
      either_first at (h.at r (omega arith) (omega arith) ∙ p)
      (frame (agree_within (omega arith) (omega arith) h) (goes_within (omega arith) (omega arith) v) m)
      (clear_agree (agree_within (omega arith) (omega arith) h) c)
  frame {r = r} h v (try_first at p m c) =
      try_first at (h.at r (omega arith) (omega arith) ∙ p)
      (frame (agree_within (omega arith) (omega arith) h) (goes_within (omega arith) (omega arith) v) m)
      (clear_agree (agree_within (omega arith) (omega arith) h) c)
  frame {r = r} h v (either_second at p c n) =
      either_second at (h.at r (omega arith) (omega arith) ∙ p) (clear_agree (agree_within (omega arith) (omega arith) h) c)
      (frame (agree_within (omega arith) (omega arith) h) (goes_within (omega arith) (omega arith) v) n)
  frame {r = r} h v (then_second at p c n) =
      then_second at (h.at r (omega arith) (omega arith) ∙ p) (clear_agree (agree_within (omega arith) (omega arith) h) c)
      (frame (agree_within (omega arith) (omega arith) h) (goes_within (omega arith) (omega arith) v) n)
  frame {r = r} h v (then_first at p m c g o) =
      then_first at (h.at r (omega arith) (omega arith) ∙ p)
      (frame (agree_within (omega arith) (omega arith) h) (goes_within (omega arith) (omega arith) v) m)
      (clear_agree (agree_within (omega arith) (omega arith) h) c) g o
