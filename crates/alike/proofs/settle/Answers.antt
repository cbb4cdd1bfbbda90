-- `alike::settle` meets its contract: the pairs are those of the file, and name records that are there.
use Rattle.std.proofs.Common.{rules, length, sym, ap, ◌∙◌}
use Rattle.alike.specs.Outcome.{outcome_of}
use Rattle.alike.specs.Tables.{expressions}
use Rattle.alike.proofs.Readying.{listed_few, pairs_ready, within_split, first_split, split_whole}
use Rattle.alike.proofs.settle.Goals as goal

pub slice_bounds-listed-end : goal.slice_bounds-listed-end
slice_bounds-listed-end c = listed_few c.args.pairs.now (length c.args.records.now.nodes.now) c.requires.read c.requires.at

pub slice_bounds-listed-end-2 : goal.slice_bounds-listed-end-2
slice_bounds-listed-end-2 c =
    let few = listed_few c.args.pairs.now (length c.args.records.now.nodes.now) c.requires.read c.requires.at in search rules

pub split-requires : goal.split-requires
split-requires c =
    let few = listed_few c.args.pairs.now (length c.args.records.now.nodes.now) c.requires.read c.requires.at in search rules

pub invariant_of-pairs : goal.invariant_of-pairs
invariant_of-pairs c = record { sorted = pairs_ready c.sort-entries.ensures }

pub first_fault-requires : goal.first_fault-requires
first_fault-requires c =
    let few = listed_few c.args.pairs.now (length c.args.records.now.nodes.now) c.requires.read c.requires.at in
    within_split c.args.pairs.now (length c.args.records.now.nodes.now) c.requires.read c.requires.at
    (split_whole _ c.split.ensures (search rules))

pub returns : goal.returns
returns c =
    let few = listed_few c.args.pairs.now (length c.args.records.now.nodes.now) c.requires.read c.requires.at in
    let s = split_whole _ c.split.ensures (search rules) in
    ap (outcome_of c.first_fault.result) (sym s.long) ∙ c.first_fault.ensures
    ∙ first_split c.args.pairs.now (length c.args.records.now.nodes.now) c.requires.read c.requires.at s (expressions c.args.records.now.nodes.now)
