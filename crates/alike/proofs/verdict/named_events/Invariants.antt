-- `alike::verdict::named_events` meets its contract: the records before this one are accounted for.
use Rattle.std.proofs.Common.{ℕ, ◌≡◌, ◌<◌, false, length, get_or}
use Rattle.alike.specs.Settled.{Named}
use Rattle.alike.proofs.verdict.named_events.Given as goal

abbrev pub invariant-loop-node : goal.invariant-loop-node
invariant-loop-node l =
    record { long : length l.named ≡ 256; names : (a : ℕ) → a < 256 → Named l.nodes l.node-index a (get_or l.named a false) }
