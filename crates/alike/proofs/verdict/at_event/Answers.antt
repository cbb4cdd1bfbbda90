-- `alike::verdict::at_event` meets its contract: a quiet event is answered as an earlier one; else the list is what the figures give, and its
-- first fault brings the verdict on.
use Rattle.alike.specs.Outcome.{outcome_of}
use Rattle.std.proofs.Common.{length}
use Rattle.alike.proofs.Settling.{settled_inside}
use Rattle.alike.proofs.Quiet.{quiet_skip}
use Rattle.alike.proofs.Scanning.{scanned_settled}
use Rattle.alike.proofs.verdict.at_event.Goals as goal

pub returns-then-not-known : goal.returns-then-not-known
returns-then-not-known c =
    quiet_skip c.args.pairs.now.listed.now (outcome_of c.args.best (length c.args.pairs.now.listed.now)) c.args.records.now.held c.requires.within
    (rw c.if-not-known.true at c.requires.named) (rw c.if-quiet.true at c.requires.passed) c.requires.standing

pub returns : goal.returns
returns c =
    scanned_settled c.args.records.now.nodes.now c.args.pairs.now.listed.now c.fill.new.parts c.requires.within c.fill.ensures c.requires.standing
    (settled_inside c.requires.standing) c.scan.ensures
