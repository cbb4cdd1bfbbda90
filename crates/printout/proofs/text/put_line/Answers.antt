-- `printout::text::put_line` meets its contract.
use native.Mathlib.Omega.{arith}
use Rattle.printout.proofs.Words.{line_put}
use Rattle.printout.proofs.text.put_line.Goals as goal

pub returns : goal.returns
returns c =
    line_put c.args.out.now c.args.event c.args.notices c.args.status (omega arith) c.to_le_bytes.ensures
    c.hex_digit.ensures c.hex_digit-2.ensures c.hex_digit-3.ensures c.hex_digit-4.ensures c.hex_digit-5.ensures c.hex_digit-6.ensures
    c.put_word.ensures (rw c.status_word.ensures at c.put_word-2.ensures)
