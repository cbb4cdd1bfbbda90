-- `printout::text::put_word` meets its contract.
use native.Mathlib.Omega.{arith}
use Rattle.printout.proofs.Outputs.{put_part}
use Rattle.printout.proofs.text.put_word.Goals as goal

pub returns : goal.returns
returns c = rw c.copy_from_slice.ensures.after (put_part c.args.out.now c.args.at c.args.word.now (omega arith) (omega arith))
