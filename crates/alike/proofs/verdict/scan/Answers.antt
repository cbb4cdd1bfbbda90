-- `alike::verdict::scan` meets its contract: the pairs passed meet every closing condition on this event.
use Rattle.std.proofs.Common.{rules, arith, ◌≡◌, length}
use Rattle.std.proofs.Math.Seq.{get_or-take, length-take-le}
use Rattle.records.proofs.Refusals.{refusal_some}
use Rattle.alike.specs.Tables.{pair}
use Rattle.alike.specs.Outcome.{outcome_of}
use Rattle.alike.specs.Settled.{Scanned.as_before, Scanned.better}
use Rattle.alike.proofs.verdict.scan.Goals as goal

pub returns-in-Err : goal.returns-in-Err
returns-in-Err c =
    let end : c.map_or-end.result ≡ (outcome_of c.args.best (length c.args.pairs.now.listed.now)).pair = search rules in
    let size = length-take-le c.map_or-end.result c.args.pairs.now.listed.now (omega arith) in
    let here = get_or-take c.map_or-end.result c.args.pairs.now.listed.now c.loop-i.i (pair 0 0) (omega arith) in
    let failed = rw (c.from.ensures, c.from-in-loop-i.ensures) at c.in-Err.ensures in
    better (omega arith) c.loop-i.invariant (rw here at failed) (refusal_some c.in-Err.refusal)

pub returns : goal.returns
returns c =
    let end : c.map_or-end.result ≡ (outcome_of c.args.best (length c.args.pairs.now.listed.now)).pair = search rules in
    let size = length-take-le c.map_or-end.result c.args.pairs.now.listed.now (omega arith) in
    as_before (λ j l. c.loop-i.invariant j (omega arith))
