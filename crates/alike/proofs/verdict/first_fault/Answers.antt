-- `alike::verdict::first_fault` meets its contract: before each event the verdict on the events before it stands. That the event is the one that is
-- handed over is proved by its number, however the code writes it.
use Rattle.std.proofs.Common.{rules, arith, ◌≡◌, ◌∙◌, sym, length}
use Rattle.alike.specs.Outcome.{outcome_of}
use Rattle.alike.specs.Settled.{Quiet.not_yet}
use Rattle.alike.proofs.Settling.{settled_none, settled_early}
use Rattle.alike.proofs.Quiet.{quiet_more}
use Rattle.alike.proofs.Scanning.{standing_at, standing_first}
use Rattle.alike.proofs.verdict.first_fault.Goals as goal

pub loop-event-init : goal.loop-event-init
loop-event-init c = record { passed = not_yet; standing = settled_none }

pub returns-then-map_or-eq0 : goal.returns-then-map_or-eq0
returns-then-map_or-eq0 c =
    let before : c.map_or.result ≡ (outcome_of c.loop-event.best (length c.args.pairs.now.listed.now)).pair = search rules in
    standing_first c.args.records.now.nodes.now c.args.pairs.now.listed.now c.args.records.now.held
    (settled_early (sym before ∙ c.if-map_or-eq0.true) (omega arith) c.loop-event.invariant.standing)

pub loop-event-preserved : goal.loop-event-preserved
loop-event-preserved c =
    record {
      passed = rw c.from.ensures (quiet_more (c.named_events-named.ensures c.loop-event.event (omega arith)) c.loop-event.invariant.passed);
      standing = standing_at c.args.records.now.nodes.now c.args.pairs.now.listed.now c.at_event-best.ensures (omega arith);
    }

pub returns-else-map_or-eq0 : goal.returns-else-map_or-eq0
returns-else-map_or-eq0 c =
    standing_first c.args.records.now.nodes.now c.args.pairs.now.listed.now c.args.records.now.held
    (standing_at c.args.records.now.nodes.now c.args.pairs.now.listed.now c.at_event-best.ensures (omega arith))
