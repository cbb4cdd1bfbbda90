-- `alike::list::fill` meets its contract: the entries before r are what the figures give.
use Rattle.std.proofs.Common.{length}
use Rattle.alike.specs.Tables.{expressions}
use Rattle.alike.specs.List.{Filled}
use Rattle.alike.proofs.list.fill.Given as goal

abbrev pub invariant-loop-r : goal.invariant-loop-r
invariant-loop-r l = let nodes = l.records.nodes.now in Filled (expressions nodes) (length nodes) l.event l.parts l.r
