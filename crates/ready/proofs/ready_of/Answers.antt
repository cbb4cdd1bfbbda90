-- `ready::ready_of` meets its contract: the file's number, then the rule's size, then the last record written out and its nodes prepared.
use Rattle.std.proofs.Common.{arith, sym}
use Rattle.std.proofs.lemmas.Result.{err_from_is_err_and}
use Rattle.records.proofs.Refusals.{refusal_some}
use Rattle.files.proofs.Places.{records_ready}
use Rattle.ready.proofs.Readying.{refused_read, refused_large, accepted, write_room, nodes_some, rule_ready}
use Rattle.ready.proofs.ready_of.Goals as goal

pub returns-in_err-reading-clause-refused : goal.returns-in_err-reading-clause-refused
returns-in_err-reading-clause-refused c =
    let p = err_from_is_err_and c.from_residual.result c.from_residual.ensures.1 in
    rw (p.1, p.2)
    (rw c.in_err-reading.was at (refused_read _ c.read_expressions-reading.ensures.read (rw c.in_err-reading.was (refusal_some _))))

pub rule_size-requires : goal.rule_size-requires
rule_size-requires c = records_ready _ c.read_expressions-reading.ensures.read (rw c.in_ok-reading.was)

pub returns-then-rule_size-gt64-clause-refused : goal.returns-then-rule_size-gt64-clause-refused
returns-then-rule_size-gt64-clause-refused c =
    refused_large _ c.read_expressions-reading.ensures.read (rw c.in_ok-reading.was) c.rule_size.ensures (omega arith)

pub overflow_sub-at : goal.overflow_sub-at
overflow_sub-at c = (records_ready _ c.read_expressions-reading.ensures.read (rw c.in_ok-reading.was)).0.0

pub write_out-requires : goal.write_out-requires
write_out-requires c =
    write_room _ c.read_expressions-reading.ensures.read (rw c.in_ok-reading.was) c.rule_size.ensures (omega arith)

pub overflow_sub-root : goal.overflow_sub-root
overflow_sub-root c =
    (nodes_some _ c.read_expressions-reading.ensures.read (rw c.in_ok-reading.was) c.rule_size.ensures (omega arith)
    c.write_out.ensures).0

pub prepare-start-requires : goal.prepare-start-requires
prepare-start-requires c =
    let n = nodes_some _ c.read_expressions-reading.ensures.read (rw c.in_ok-reading.was) c.rule_size.ensures (omega arith)
    c.write_out.ensures in
    omega arith

pub returns-clause-refused : goal.returns-clause-refused
returns-clause-refused c =
    sym (accepted _ c.read_expressions-reading.ensures.read (rw c.in_ok-reading.was) c.rule_size.ensures (omega arith))

pub returns-clause-ready : goal.returns-clause-ready
returns-clause-ready c =
    rule_ready _ c.read_expressions-reading.ensures.read (rw c.in_ok-reading.was) c.rule_size.ensures (omega arith)
    c.write_out.ensures c.prepare-start.ensures

pub returns-clause-root_few : goal.returns-clause-root_few
returns-clause-root_few c =
    let n = nodes_some _ c.read_expressions-reading.ensures.read (rw c.in_ok-reading.was) c.rule_size.ensures (omega arith)
    c.write_out.ensures in
    omega arith
