-- A desk on which a rule sits: fresh after an opening that was accepted, and after each step it sits there still, with one event more behind it.
-- The step's reply is what the figures say, and its two words stand for what remains.
use Prim.Native.Nat.{ℕ, ◌≤◌, ◌<◌, ◌^◌}
use mathlib.Core.Path.{◌≡◌, refl, ap, ◌∙◌}
use mathlib.Core.Bool.{true}
use mathlib.Core.List.{List, [], ◌∷◌, ◌++◌}
use native.Mathlib.Nat.{mod-eq_of_lt}
use Rattle.std.specs.Prelude.{Ok}
use Rattle.par.specs.Expr.{Expr, size}
use Rattle.par.specs.Step.{remainder}
use Rattle.par.specs.Feed.{answer, after, Bytes}
use Rattle.par.specs.Throughout.{Any, Fits}
use Rattle.par.proofs.Throughout.{after_has}
use Rattle.par.proofs.Weight.{lines_after}
use Rattle.files.specs.Rule.{rule, rule_number}
use Rattle.play.specs.Said.{remains}
use Rattle.play.specs.Mirror.Step.{stepped}
use Rattle.play.proofs.Plays.{Stands}
use Rattle.play.proofs.Whole.{Good, right}
use Rattle.play.proofs.Exact.{stands_said}
use Rattle.ready.proofs.Promises.{ready_stands, root_few}
use Rattle.engine.specs.declared.Desk.{Desk}
use Rattle.engine.specs.Reply.{said}
use Rattle.engine.specs.Mirror.Desk.{fresh_desk, marked, Onward, played_on, onward, stepped_of}
use Rattle.engine.proofs.Widths.{rule_narrow, narrow_notices}

pub record Sitting (d : Desk) (x : Expr) (feed : List ℕ) : Type 0 where
  pub open_is : marked d.is_open ≡ true
  pub root_low : d.root < 64
  pub narrow : Fits 16 x
  pub stands : Stands d.nodes d.gain d.leaves d.repeats d.root d.active d.going (after x feed)

pub fresh_sits : (s : List ℕ) → Bytes s → rule_number s ≡ 0 → Sitting (fresh_desk s) (rule s) []
unfolding fresh_desk after
fresh_sits s b e = record { open_is = refl; root_low = root_few s e; narrow = rule_narrow s b e; stands = ready_stands s e }

-- the two words say what remains
pub sitting_remains : (d : Desk) (x : Expr) (feed : List ℕ) → Sitting d x feed → remains d.nodes d.gain d.root d.active d.going ≡ after x feed
sitting_remains d x feed s = stands_said s.root_low s.stands

-- ---- a step

pub after_more : (x : Expr) (feed : List ℕ) (a : ℕ) → after x (feed ++ (a ∷ [])) ≡ remainder (after x feed) a
unfolding after
after_more x [] a = refl
after_more x (b ∷ feed) a = after_more (remainder x b) feed a

module _ (d : Desk) (x : Expr) (feed : List ℕ) (s : Sitting d x feed) (a : ℕ) where
  good : Good d.nodes d.gain d.leaves d.repeats d.root a (after x feed)
      (stepped d.nodes d.gain d.leaves d.repeats d.root a d.active)
  good = right a s.root_low s.stands

  goes_on : onward d a ≡ played_on (stepped d.nodes d.gain d.leaves d.repeats d.root a d.active)
  unfolding onward
  goes_on = rw (s.open_is, mod-eq_of_lt s.root_low) refl

  pub step_sits : Sitting (stepped_of d a).desk x (feed ++ (a ∷ []))
  unfolding stepped_of
  step_sits =
      rw goes_on
      (record { open_is = s.open_is; root_low = s.root_low; narrow = s.narrow; stands = rw (after_more x feed a) good.stands })

  -- what the figures say of the event
  pub step_answers : (stepped_of d a).reply ≡ Ok (answer (after x feed) a)
  unfolding stepped_of
  step_answers =
      let fits = after_has Any (λ A. A < 2 ^ 16) feed x s.narrow in
      ap (λ (o : Onward). o.reply) goes_on ∙ rw (good.status, good.lines, good.notices, narrow_notices (after x feed) a fits) refl

  -- at most as many lines as the rule has nodes, after whatever went before
  pub step_lines : (said (stepped_of d a).reply).lines ≤ size x
  step_lines = rw step_answers (lines_after x feed a)
