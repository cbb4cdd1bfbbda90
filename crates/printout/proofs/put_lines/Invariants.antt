-- `printout::put_lines` meets its contract. The invariant: what is written, with the lines of the records that are left behind it, is the whole.
use Rattle.printout.proofs.Printing.{Printing}
use Rattle.printout.proofs.put_lines.Given as goal

abbrev pub invariant-loop-i : goal.invariant-loop-i
invariant-loop-i l = Printing l.events l.initial.output l.output l.i
