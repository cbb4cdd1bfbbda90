-- `ready::fresh::prepare` meets its contract: in turn r, what it holds is what is prepared below r.
use mathlib.Core.Path.{refl}
use native.Mathlib.Numerals.{add-one}
use Rattle.play.specs.Mirror.Nodes.{kind_at, first_at}
use Rattle.ready.specs.Mirror.Fresh.{prepares}
use Rattle.ready.proofs.fresh.prepare.Goals as goal

pub loop-r-init : goal.loop-r-init
unfolding prepares
loop-r-init c = refl

pub loop-r-preserved : goal.loop-r-preserved
unfolding prepares kind_at first_at
loop-r-preserved c =
    rw (
      add-one c.loop-r.r,
      c.marked.ensures.leaves,
      c.marked.ensures.repeats,
      c.fresh_of.ensures,
      c.gain_of.ensures,
      c.first-x.ensures,
      c.last-y.ensures,
      c.kind_afresh-kind.ensures.fresh,
      c.kind_afresh-kind.ensures.gain,
      c.kind_afresh-kind.ensures.leaf,
      c.kind_afresh-kind.ensures.repeat,
      ← c.loop-r.invariant,
    )
