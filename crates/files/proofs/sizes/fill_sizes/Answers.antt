-- `files::sizes::fill_sizes` meets its contract: the records that a record names stand before it, so their sizes are in the table.
use mathlib.Core.Path.{◌≡◌}
use native.Mathlib.Omega.{arith}
use lib.ListN.{length, get_or}
use Rattle.files.specs.Rule.{node_in, size_from}
use Rattle.files.proofs.CappedSizes.{parts_below, sized_more}
use Rattle.files.proofs.sizes.fill_sizes.Goals as goal

pub size_of-requires : goal.size_of-requires
unfolding node_in
size_of-requires c =
    rw c.node_at.ensures (parts_below (node_in c.args.file.now c.args.at.now) (length c.args.at.now) c.requires.1 c.loop-r.r _ (omega arith) (omega arith))

pub loop-r-preserved : goal.loop-r-preserved
unfolding node_in
loop-r-preserved c =
    let e : c.size_of.result ≡ size_from (λ p. get_or c.loop-r.sizes p 0) (node_in c.args.file.now c.args.at.now c.loop-r.r) =
    rw (c.size_of.ensures, c.node_at.ensures) in
    sized_more (node_in c.args.file.now c.args.at.now) (length c.args.at.now) c.requires.1 _ c.loop-r.sizes c.loop-r.r _ (omega arith) (omega arith)
    c.loop-r.invariant e
