-- `engine::open` meets its contract: the file is refused and the desk stays, or the desk is the fresh one.
use Rattle.std.proofs.lemmas.Result.{err_from_is_err_and}
use Rattle.records.proofs.Refusals.{refusal_some}
use Rattle.engine.proofs.Calls.{open_refused, open_accepted}
use Rattle.engine.proofs.open.Goals as goal

pub returns-in_err-d : goal.returns-in_err-d
returns-in_err-d c =
    let p = err_from_is_err_and c.from_residual.result c.from_residual.ensures.1 in
    rw (p.1, p.2) (open_refused c.args.d.now c.args.rule.now c.in_err-d.ensures.refused (refusal_some _))

pub returns : goal.returns
returns c = open_accepted c.args.d.now c.args.rule.now c.in_ok-d.ensures.refused c.in_ok-d.ensures.fresh
