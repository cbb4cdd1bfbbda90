-- `engine::feed::run` meets its contract: the file is refused, there is no room, or the feed is answered.
use mathlib.Core.Path.{sym}
use native.Mathlib.Omega.{arith}
use Rattle.std.proofs.lemmas.Result.{err_from_is_err_and}
use Rattle.records.proofs.Refusals.{refusal_some}
use Rattle.engine.specs.Mirror.Feed.{fed_bytes}
use Rattle.engine.proofs.Bytes.{all_bytes}
use Rattle.engine.proofs.Runs.{run_refused, run_no_room, run_answers}
use Rattle.engine.proofs.feed.run.Goals as goal

pub returns-in_err-ready : goal.returns-in_err-ready
returns-in_err-ready c =
    let p = err_from_is_err_and c.from_residual.result c.from_residual.ensures.1 in
    rw (p.1, p.2)
    (run_refused c.args.rule.now c.args.events.now c.args.place c.args.answers.now c.in_err-ready.ensures.refused (refusal_some _))

pub returns-then-not-has_room : goal.returns-then-not-has_room
returns-then-not-has_room c =
    run_no_room c.args.rule.now c.args.events.now c.args.place c.args.answers.now (sym c.in_ok-ready.ensures.refused)
    (sym c.if-not-has_room.ensures)

pub returns : goal.returns
unfolding fed_bytes
returns c =
    let r = c.rule.ensures in
    run_answers c.args.rule.now c.args.events.now c.args.place c.args.answers.now (sym c.in_ok-ready.ensures.refused)
    (sym c.if-not-has_room.ensures) (all_bytes c.args.rule.now (λ i. omega (arith, c.type_inv.rule i)))
    (rw (r.nodes, r.gain, r.leaves, r.repeats, r.root, c.in_ok-ready.ensures.ready) at c.feed.ensures.1)
