-- Every call is on an earlier node.
use Rattle.play.proofs.moves.+down.Given as goal

abbrev pub decreases-down : goal.decreases-down
decreases-down l = l.span.last
