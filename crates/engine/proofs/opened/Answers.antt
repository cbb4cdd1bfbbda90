-- `engine::opened` meets its contract: the desk is the fresh one, or the file is refused and the desk is the one that was given.
use Rattle.records.proofs.Refusals.{refusal_some}
use Rattle.engine.proofs.Calls.{open_refused, open_accepted}
use Rattle.engine.proofs.opened.Goals as goal

pub returns-in-Ok : goal.returns-in-Ok
returns-in-Ok c =
    let o = open_accepted c.args.d c.args.rule.now c.in-Ok.ensures.refused c.in-Ok.ensures.fresh in
    record { outcome = o.0; desk = o.1 }

pub returns-in-Err : goal.returns-in-Err
returns-in-Err c =
    let o = open_refused c.args.d c.args.rule.now c.in-Err.ensures.refused (refusal_some _) in
    record { outcome = o.0; desk = o.1 }
