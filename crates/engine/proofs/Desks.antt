-- On any desk whatever: a refused opening and a step with no rule open change nothing, no other step is refused, a finished rule stays open and
-- silent, and no step uses more than 64 lines.
use Prim.Native.Nat.{ℕ, ◌%◌, ◌≤◌, ◌<◌, ◌^◌}
use mathlib.Core.Path.{◌≡◌, ap}
use mathlib.Core.Bool.{true}
use mathlib.Core.Logic.{◌≢◌}
use mathlib.Core.List.{List}
use native.Mathlib.Omega.{arith}
use borrow.Author.Tests.{ne_eqb}
use Rattle.std.specs.Prelude.{Ok, Err}
use Rattle.par.proofs.Silence.{nothing}
use Rattle.par.specs.declared.Status.TheVariants.{Waiting}
use Rattle.records.specs.declared.refusal.Refusal.TheVariants.{NoRuleOpen}
use Rattle.records.specs.Refusals.{number}
use Rattle.files.specs.Rule.{rule_number}
use Rattle.play.specs.Mirror.Step.{stepped}
use Rattle.play.proofs.Promises.{finished, lines_few}
use Rattle.play.proofs.Tests.{by_test}
use Rattle.engine.specs.declared.Desk.{Desk}
use Rattle.engine.specs.declared.Moved.{Moved}
use Rattle.engine.specs.Reply.{said}
use Rattle.engine.specs.Mirror.Desk.{marked, fresh_desk, opened_of, answer_of, put, Onward, onward, stepped_of}

pub refused_opening : (d : Desk) (s : List ℕ) → rule_number s ≢ 0 → (opened_of d s).desk ≡ d
unfolding opened_of
refused_opening d s h = rw (ne_eqb (rule_number s) 0 h)

pub accepted_opening : (d : Desk) (s : List ℕ) → rule_number s ≡ 0 → (opened_of d s).desk ≡ fresh_desk s
unfolding opened_of
accepted_opening d s e = rw e

marked_yes : (n : ℕ) → n ≢ 0 → marked n ≡ true
marked_yes n h = rw (ne_eqb n 0 h)

module _ (d : Desk) (a : ℕ) where
  pub closed_step : d.is_open ≡ 0 → stepped_of d a ≡ record { desk = d; reply = Err NoRuleOpen }
  unfolding stepped_of onward
  closed_step e = rw e

  -- it is 15, and says none, waiting and 0
  pub closed_says : d.is_open ≡ 0
      → (stepped_of d a ≡ record { desk = d; reply = Err NoRuleOpen })
      × (number (stepped_of d a).reply ≡ 15)
      × (said (stepped_of d a).reply ≡ record { notices = 0; lines = 0; status = Waiting })
  closed_says e = (closed_step e, ap (λ (m : Moved). number m.reply) (closed_step e), ap (λ (m : Moved). said m.reply) (closed_step e))

  pub goes_on : d.is_open ≢ 0
      → let m = stepped d.nodes d.gain d.leaves d.repeats (d.root % 64) a d.active in
      stepped_of d a ≡ record { desk = put d m.active m.going; reply = Ok (answer_of m) }
  unfolding stepped_of onward
  goes_on e = rw (marked_yes d.is_open e)

  pub open_step : d.is_open ≢ 0 → number (stepped_of d a).reply ≡ 0
  unfolding stepped_of onward
  open_step e = rw (marked_yes d.is_open e)

  pub finished_step : d.is_open ≢ 0 → d.active ≡ 0 → stepped_of d a ≡ record { desk = put d 0 0; reply = Ok nothing }
  unfolding stepped_of onward
  finished_step e f = rw (marked_yes d.is_open e, f, finished d.nodes d.gain d.leaves d.repeats (d.root % 64) a)

  pub reply_lines : d.active < 2 ^ 64 → (said (stepped_of d a).reply).lines ≤ 64
  unfolding stepped_of onward
  reply_lines small =
      by_test (λ (o : Onward). (said o.reply).lines ≤ 64) (marked d.is_open)
      (λ _. lines_few d.nodes d.gain d.leaves d.repeats (d.root % 64) a d.active small) (λ _. omega arith)
