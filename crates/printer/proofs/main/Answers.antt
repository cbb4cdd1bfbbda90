-- `printer::main` is safe: no text is longer than the output.
use Rattle.std.proofs.Common.{arith, sym}
use Rattle.std.proofs.lemmas.List.{length-take-le}
use Rattle.printout.proofs.Promises.{text_fits}
use Rattle.printer.proofs.main.Goals as goal

pub slice_bounds-write_all-end : goal.slice_bounds-write_all-end
slice_bounds-write_all-end c =
    sym
    (length-take-le _ _
    (omega (arith, text_fits c.deref.result.now, c.print-written.ensures.long, c.deref-2.ensures.len, c.in_ok-output.ensures.len)))
