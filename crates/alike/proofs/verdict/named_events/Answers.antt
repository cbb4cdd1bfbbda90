-- `alike::verdict::named_events` meets its contract: the records before this one are accounted for.
use Rattle.std.proofs.Common.{rules, arith, ◌≡◌, length, false}
use Rattle.std.proofs.lemmas.List.{get_or-replicate}
use Rattle.alike.proofs.Naming.{names_start, names_same, names_more}
use Rattle.alike.proofs.verdict.named_events.Goals as goal
use Rattle.alike.proofs.verdict.named_events.Goals.{in-Event, in_default}

pub loop-node-init : goal.loop-node-init
loop-node-init c = record { long = search rules; names = λ a h. names_start c.args.nodes.now a (get_or-replicate 256 a false false h) }

pub loop-node-preserved : goal.loop-node-preserved
loop-node-preserved c = elim c.match-node.branch [
  | in-Event w ↦
      let long = c.loop-node.invariant.long in
      rw (w.named-is, w.from.ensures)
      (record { long = search rules; names = names_more c.loop-node.named w.in-Event.event (omega arith) w.in-Event.is c.loop-node.invariant.names })
  | in_default w ↦
      rw w.named-is
      (record { long = c.loop-node.invariant.long; names = names_same c.loop-node.named w.in_default.not-Event c.loop-node.invariant.names })
]

pub returns : goal.returns
returns c = let e : c.loop-node.node-index ≡ length c.args.nodes.now = omega arith in rw (← e) c.loop-node.invariant.names
