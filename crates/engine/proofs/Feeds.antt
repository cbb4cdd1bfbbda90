-- What the player writes for a rule that stands is the bytes of the figures' answers.
use Prim.Native.Nat.{ℕ, ◌<◌, ◌^◌}
use mathlib.Core.Path.{◌≡◌, refl}
use mathlib.Core.List.{List, [], ◌∷◌}
use Rattle.par.specs.Expr.{Expr}
use Rattle.par.specs.Feed.{answers, Bytes}
use Rattle.par.specs.Throughout.{Any, Fits}
use Rattle.par.proofs.Throughout.{remainder_has}
use Rattle.files.specs.Rule.{rule, rule_number}
use Rattle.play.proofs.Plays.{Stands}
use Rattle.play.proofs.Whole.{right}
use Rattle.ready.proofs.Promises.{ready_stands, root_few}
use Rattle.engine.specs.Feed.{answer_bytes}
use Rattle.engine.specs.Mirror.Feed.{fed_from, fed_bytes}
use Rattle.engine.proofs.Widths.{rule_narrow, narrow_notices}

module _ {F G : List ℕ} {L R root : ℕ} (few : root < 64) where
  fed_right : (events : List ℕ) {A W : ℕ} {e : Expr} → Fits 16 e → Stands F G L R root A W e
      → fed_from F G L R root A events ≡ answer_bytes (answers e events)
  unfolding fed_from answer_bytes answers
  fed_right [] fits s = refl
  fed_right (a ∷ events) {e = e} fits s =
      let g = right a few s in
      rw (fed_right events (remainder_has Any (λ A. A < 2 ^ 16) e a fits) g.stands, g.status, g.notices, narrow_notices e a fits) refl

-- of a rule file
pub rule_fed : (s : List ℕ) → Bytes s → rule_number s ≡ 0 → (events : List ℕ) → fed_bytes s events ≡ answer_bytes (answers (rule s) events)
unfolding fed_bytes
rule_fed s b e events = fed_right (root_few s e) events (rule_narrow s b e) (ready_stands s e)
