-- The two words fix what is in play: it is what `said` reads off them, so no two expressions are.
use Prim.Native.Nat.{ℕ, zero, suc, ◌^◌, ◌<◌}
use mathlib.Core.Path.{◌≡◌, refl, sym, ap, ap₂, ◌∙◌}
use mathlib.Core.Bool.{Bool, true, false}
use mathlib.Core.List.{List}
use native.Mathlib.Omega.{arith}
use native.Mathlib.Numerals.{add-one}
use borrow.Author.Tests.{ne_eqb}
use Rattle.par.specs.Expr.{Expr}
use Rattle.par.specs.Expr.{Expr.not as Not, Expr.either as Either}
use Rattle.par.specs.Expr.{Expr.then as Then, Expr.repeat as Repeat, Expr.notify as Notify, Expr.try as Try}
use Rattle.play.specs.Mirror.Masks.{hit}
use Rattle.play.specs.Said.{said, remains}
use Rattle.play.proofs.Plays.{Plays, Stands, Stands.goes, Stands.over}
use Rattle.play.proofs.Plays.{Plays.silent, Plays.event, Plays.not, Plays.notify, Plays.repeat_fresh, Plays.repeat_going}
use Rattle.play.proofs.Plays.{Plays.either_both, Plays.either_first, Plays.either_second, Plays.then_first, Plays.then_second}
use Rattle.play.proofs.Plays.{Plays.try_both, Plays.try_first}
use Rattle.play.proofs.Spans.{hit_false, hit_clear}
use Rattle.play.proofs.Ranges.{only_small, clear_none}
use Rattle.play.proofs.Frame.{some_in}
use Rattle.play.proofs.Rests.{sub_one}

module _ {F G : List ℕ} {L R : ℕ} where
  some_hit : {A W lo r : ℕ} {e : Expr} → Plays F G L R A W lo r e → hit A lo r ≡ true
  some_hit {A} {W} {lo} {r} m = go (hit A lo r) refl
    where
      go : (b : Bool) → hit A lo r ≡ b → b ≡ true
      go true i = refl
      go false i = absurd (some_in m (hit_false A lo r i))

  pub plays_said : (f : ℕ) {A W lo r : ℕ} {e : Expr} → Plays F G L R A W lo r e → r < f → A < 2 ^ 64 → said F G f A W lo r ≡ e
  unfolding said
  plays_said zero m h s = absurd (omega arith)
  plays_said (suc f) (silent at l p) h s = rw at.kind_is refl
  plays_said (suc f) (event at l i p) h s = rw (at.kind_is, i) refl
  plays_said (suc f) (not at p m) h s = rw (at.kind_is, at.first_is) (ap Not (plays_said f m (omega arith) s))
  plays_said (suc f) (notify {N = N} at p i m) h s =
      rw (at.kind_is, at.first_is, i) (ap (λ (d : Expr). Notify d N) (plays_said f m (omega arith) s))
  plays_said (suc f) (repeat_fresh at i p w m g o) h s =
      rw (at.kind_is, at.first_is, w) (ap Repeat (plays_said f m (omega arith) s))
  plays_said (suc f) (repeat_going at i p w m g o) h s =
      rw (at.kind_is, at.first_is, w)
      (ap₂ (λ (d e : Expr). Then d (Repeat e)) (plays_said f m (omega arith) s)
      (plays_said f g (omega arith) (only_small (omega arith) o)))
  plays_said (suc f) (either_both {x = x} {y = y} at p m n) h s =
      rw (at.kind_is, at.first_is, p, add-one x, sub_one y)
      (ap₂ Either (plays_said f m (omega arith) s) (plays_said f n (omega arith) s))
  plays_said (suc f) (either_first {x = x} {y = y} at p m k) h s =
      rw (at.kind_is, at.first_is, p, some_hit m) (plays_said f m (omega arith) s)
  plays_said (suc f) (either_second {lo = lo} {x = x} {y = y} at p k n) h s =
      rw (at.kind_is, at.first_is, p, hit_clear _ lo x s k, add-one x, sub_one y)
      (plays_said f n (omega arith) s)
  plays_said (suc f) (then_first {x = x} {y = y} at p m k g o) h s =
      rw (at.kind_is, at.first_is, p, add-one x, sub_one y)
      (ap₂ Then (plays_said f m (omega arith) s) (plays_said f g (omega arith) (only_small (omega arith) o)))
  plays_said (suc f) (then_second {x = x} {y = y} at p k n) h s =
      rw (at.kind_is, at.first_is, p, add-one x, sub_one y) (plays_said f n (omega arith) s)
  plays_said (suc f) (try_both {x = x} {y = y} at p m n) h s =
      rw (at.kind_is, at.first_is, p, add-one x, sub_one y)
      (ap₂ Try (plays_said f m (omega arith) s) (plays_said f n (omega arith) s))
  plays_said (suc f) (try_first at p m k) h s =
      rw (at.kind_is, at.first_is, p) (plays_said f m (omega arith) s)

  pub plays_one : {A W lo r : ℕ} {d e : Expr} → A < 2 ^ 64 → Plays F G L R A W lo r d → Plays F G L R A W lo r e → d ≡ e
  plays_one {r = r} s m n = sym (plays_said (suc r) m (omega arith) s) ∙ plays_said (suc r) n (omega arith) s

-- ---- a whole rule

pub stands_said : {F G : List ℕ} {L R root A W : ℕ} {e : Expr} → root < 64 → Stands F G L R root A W e → remains F G root A W ≡ e
unfolding remains
stands_said {root = root} {A = A} few (goes m o) =
    rw (ne_eqb A 0 (λ z. some_in m (clear_none z))) (plays_said (suc root) m (omega arith) (only_small few o))
stands_said few (over z) = rw z refl

-- so no two expressions stand there
pub stands_one : {F G : List ℕ} {L R root A W : ℕ} {d e : Expr} → root < 64 → Stands F G L R root A W d → Stands F G L R root A W e → d ≡ e
stands_one few m n = sym (stands_said few m) ∙ stands_said few n
