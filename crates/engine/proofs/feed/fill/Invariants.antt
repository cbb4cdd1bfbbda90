-- `engine::feed::fill` meets its contract.
use Rattle.engine.proofs.Filling.{Filling}
use Rattle.engine.proofs.feed.fill.Given as goal

abbrev pub invariant-loop-r : goal.invariant-loop-r
invariant-loop-r l = Filling l.rule.nodes.now l.rule.leaves l.table l.r
