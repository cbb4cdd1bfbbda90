-- Mirror. The rule of a file.
use Rattle.std.specs.Prelude.{ℕ, suc, ◌-◌, length}
use mathlib.Core.List.{List, replicate}
use Rattle.files.specs.Reading.{reading}
use Rattle.files.specs.Rule.{node_in}
use Rattle.ready.specs.declared.Ready.{Ready}
use Rattle.ready.specs.declared.writing.Written.{Written}
use Rattle.ready.specs.Mirror.WrittenOut.{wrote, last, written_out}
use Rattle.ready.specs.Mirror.Fresh.{start_of, prepares}

abbrev pub blank : Written
blank = wrote (replicate 64 0) (replicate 64 0) 0

-- the last record written out
unfoldable pub rule_nodes : List ℕ → Written
rule_nodes s = let ps = (reading s).places in written_out (node_in s ps) (length ps) (length ps - 1) blank

abbrev pub ready_from : Written → Ready
ready_from w =
    let p = prepares w.nodes w.sets (suc (last w)) in
    let start = start_of p (last w) in
    record {
      root = last w;
      leaves = start.leaves;
      repeats = start.repeats;
      fresh = start.fresh;
      nodes = w.nodes;
      gain = p.gain;
    }

-- of an accepted file
unfoldable pub ready_of : List ℕ → Ready
ready_of s = ready_from (rule_nodes s)
