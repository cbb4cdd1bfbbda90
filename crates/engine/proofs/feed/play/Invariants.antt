-- `engine::feed::play` meets its contract. The invariant: what is written, with the answers to the rest of the events behind it, is the whole.
use Rattle.engine.proofs.Feeding.{Feeding}
use Rattle.engine.proofs.feed.play.Given as goal

abbrev pub invariant-loop-event : goal.invariant-loop-event
invariant-loop-event l =
    Feeding l.rule.nodes.now l.rule.gain.now l.rule.leaves l.rule.repeats l.rule.root l.events l.place l.active l.initial.answers l.answers
    l.playing l.at l.event-index
