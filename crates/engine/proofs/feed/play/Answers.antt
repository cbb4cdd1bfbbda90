-- `engine::feed::play` meets its contract. The invariant: what is written, with the answers to the rest of the events behind it, is the whole.
use native.Mathlib.Omega.{arith}
use Rattle.engine.proofs.Feeding.{feeding_begins, feeding_turn, feeding_ended}
use Rattle.engine.proofs.feed.play.Goals as goal

pub loop-event-init : goal.loop-event-init
loop-event-init c = feeding_begins _ _ _ _ _ c.args.events.now c.args.place c.args.active c.args.answers.now

pub loop-event-preserved : goal.loop-event-preserved
loop-event-preserved c =
    feeding_turn _ _ _ _ _ c.args.events.now c.args.place c.args.active c.args.answers.now c.loop-event.invariant c.requires.0 c.requires.1
    (omega arith) (omega (arith, c.type_inv.events c.loop-event.event-index))
    _ (rw c.met_in-met.ensures at c.answer-playing.ensures.0) _ (rw c.met_in-met.ensures at c.answer-playing.ensures.1)

pub returns : goal.returns
returns c = feeding_ended _ _ _ _ _ _ _ _ _ c.loop-event.invariant (omega arith)
