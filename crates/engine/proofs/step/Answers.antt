-- `engine::step` meets its contract: no rule is open, or the two words and the answer are those of the rule's step.
use Rattle.std.proofs.Common.{sym, ◌∙◌}
use borrow.Author.Tests.{eqb-true, eqb-false}
use Rattle.engine.proofs.Calls.{step_closed, step_open}
use Rattle.engine.proofs.step.Goals as goal

pub returns-then-is_closed : goal.returns-then-is_closed
returns-then-is_closed c = step_closed c.args.d.now c.args.event (eqb-true _ 0 (sym c.is_closed.ensures ∙ c.if-is_closed.true))

pub returns : goal.returns
returns c =
    let r = c.rule.ensures in
    rw c.answer_of.ensures
    (step_open c.args.d.now c.args.event (eqb-false _ 0 (sym c.is_closed.ensures ∙ c.if-is_closed.false))
    (rw (r.nodes, r.gain, r.leaves, r.repeats, r.root) at c.step-moved.ensures))
