-- `engine::feed::fill` meets its contract.
use Rattle.engine.proofs.Filling.{filling_begins, filling_turn, filling_ended}
use Rattle.engine.proofs.feed.fill.Goals as goal

pub loop-r-init : goal.loop-r-init
loop-r-init c = filling_begins _ _ c.requires

pub loop-r-preserved : goal.loop-r-preserved
loop-r-preserved c = rw c.enter.ensures (filling_turn _ _ c.loop-r.invariant c.loop-r-test.true)

pub returns : goal.returns
returns c = filling_ended _ _ c.loop-r.invariant c.loop-r-test.false
