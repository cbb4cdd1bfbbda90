-- `files::sizes::fill_sizes` meets its contract. The loop's invariant: the table is filled as far as r.
use Rattle.files.specs.Rule.{node_in}
use Rattle.files.specs.Post.{Sized}
use Rattle.files.proofs.sizes.fill_sizes.Given as goal

abbrev pub invariant-loop-r : goal.invariant-loop-r
invariant-loop-r l = Sized (node_in l.file l.at) l.r l.initial.sizes l.sizes
