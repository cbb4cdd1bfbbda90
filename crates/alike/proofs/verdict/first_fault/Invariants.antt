-- `alike::verdict::first_fault` meets its contract: before each event the verdict on the events before it stands.
use lib.ListN.{length}
use Rattle.alike.specs.Settled.{Standing, Quiet}
use Rattle.alike.specs.Outcome.{outcome_of}
use Rattle.alike.proofs.verdict.first_fault.Given as goal

abbrev pub invariant-loop-event : goal.invariant-loop-event
invariant-loop-event l =
    record {
      passed : Quiet l.records.nodes.now l.event l.quiet;
      standing : Standing l.records.nodes.now l.pairs.listed.now l.event (outcome_of l.best (length l.pairs.listed.now));
    }
