-- `ready::fresh::prepare` meets its contract: in turn r, what it holds is what is prepared below r.
use mathlib.Core.Path.{◌≡◌}
use Rattle.ready.specs.Mirror.Fresh.{prepared, prepares}
use Rattle.ready.proofs.fresh.prepare.Given as goal

abbrev pub invariant-loop-r : goal.invariant-loop-r
invariant-loop-r l = prepared l.fresh l.gain l.leaves l.repeats ≡ prepares l.nodes l.initial.gain l.r
