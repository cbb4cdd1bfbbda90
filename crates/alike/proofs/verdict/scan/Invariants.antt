-- `alike::verdict::scan` meets its contract: the pairs passed meet every closing condition on this event.
use Prim.Native.Nat.{ℕ, ◌<◌}
use Rattle.alike.specs.Settled.{RowPart}
use Rattle.alike.proofs.verdict.scan.Given as goal

abbrev pub invariant-loop-i : goal.invariant-loop-i
invariant-loop-i l = (j : ℕ) → j < l.i → RowPart l.parts l.pairs.listed.now j 0
