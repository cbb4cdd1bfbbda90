-- Before the loop none has been met, a turn takes the lowest of those left, and where none is left those that came have been met.
use Rattle.std.proofs.Common.{◌∙◌, arith, eq-eqb, ne_eqb, sym}
use Rattle.play.specs.Mirror.Masks.{with, both}
use Rattle.play.specs.Mirror.Nodes.{first_at}
use Rattle.play.proofs.Lowest.{meets_none, meets_drop, meets_all, drop_falls}
use Rattle.play.proofs.met_of.Goals as goal
use Rattle.play.proofs.met_of.Goals.{then-nodes-r, else-nodes-r}

pub loop-left-init : goal.loop-left-init
unfolding both
loop-left-init c = meets_none c.args.nodes.now c.args.leaves c.args.event c.args.active (omega arith)

pub loop-left-smaller : goal.loop-left-smaller
unfolding both
loop-left-smaller c = drop_falls c.loop-left.left c.loop-left.invariant.left_small c.loop-left-test.true

pub loop-left-preserved : goal.loop-left-preserved
unfolding first_at with both
loop-left-preserved c =
    let next = meets_drop _ _ _ _ c.loop-left.invariant c.loop-left-test.true in
    elim c.if-nodes-r.branch [
      | then-nodes-r w ↦ rw (w.met-is, w.one-met.ensures) (rw (eq-eqb _ _ (w.if-nodes-r.true ∙ c.from.ensures)) at next)
      | else-nodes-r w ↦ rw w.met-is (rw (ne_eqb _ _ (λ e. w.if-nodes-r.false (e ∙ sym c.from.ensures))) at next)
    ]

pub returns : goal.returns
returns c = meets_all _ _ _ _ c.loop-left.invariant c.loop-left-test.false
