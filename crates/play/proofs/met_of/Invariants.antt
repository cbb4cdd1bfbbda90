-- The events met so far are those of all in play but the ones that are left, and each turn takes the lowest out.
use Rattle.play.proofs.Lowest.{Meets}
use Rattle.play.proofs.met_of.Given as goal

abbrev pub invariant-loop-left : goal.invariant-loop-left
invariant-loop-left l = Meets l.nodes l.fn.leaves l.fn.event l.fn.active l.left l.met

abbrev pub decreases-loop-left : goal.decreases-loop-left
decreases-loop-left l = l.left
