-- `readings::print_all` ends: less of the input is left after each case.
use Rattle.std.proofs.Common.{length}
use Rattle.readings.proofs.print_all.Given as goal

abbrev pub decreases-loop-rest : goal.decreases-loop-rest
decreases-loop-rest g l = length l.rest
