-- `printout::put_lines` meets its contract.
use mathlib.Core.Path.{◌∙◌, ap}
use native.Mathlib.Omega.{arith}
use Rattle.printout.proofs.Lines.{lines_in, lines_in_answers}
use Rattle.printout.proofs.Printing.{printing_turn, printing_ended}
use Rattle.printout.proofs.put_lines.Goals as goal

pub loop-i-preserved : goal.loop-i-preserved
loop-i-preserved c = printing_turn c.requires.0 c.loop-i.invariant c.loop-i-test.true (omega arith)
    c.from-status.ensures c.put_line.ensures

pub returns : goal.returns
returns c = λ rs many bytes.
    printing_ended c.requires.0 c.loop-i.invariant c.loop-i-test.false ∙ ap
    (lines_in c.args.events.now) bytes ∙ lines_in_answers c.args.events.now rs many
