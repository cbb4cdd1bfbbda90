-- Both files are read without fault: `at` and `places` are the places of their records, and ix an index of the expression file's.
use Rattle.std.specs.Prelude.{ℕ, ◌≡◌, List, length, take, replicate}
use Rattle.par.specs.Nodes.{node_cmp}
use Rattle.files.specs.Reading.{reading}
use Rattle.files.specs.Rule.{node_in}
use Rattle.files.specs.Index.{Sorted}
use Rattle.files.specs.Post.{Indexed}
use Rattle.files.specs.declared.Reading.{Reading}
use Rattle.par.specs.declared.Node.{Node}
use Rattle.records.specs.Refusals.{number}
use Rattle.alike.specs.Tables.{record_of, Kept, Decodes}
use Rattle.alike.specs.Proposal.{listing}

pub record Ready (es at ix ps places : List ℕ) : Type 0 where
  pub expressions_read : (reading es).number ≡ 0
  pub at_is : at ≡ (reading es).places
  pub sorted : Sorted node_cmp (node_in es at) (length at) ix (length ix)
  pub pairs_read : (listing es ps).number ≡ 0
  pub places_are : places ≡ (listing es ps).places

-- The expression file s is read: `at` are the places of its records as reading leaves them, which are decoded where it is accepted.
pub record Recorded (s : List ℕ) (r : Reading) (was ns : List Node) (old ix : List ℕ) : Type 0 where
  pub at : List ℕ
  pub indexed : Indexed s r (replicate 1024 0) at old ix
  pub kept : Kept record_of (take r.count at) was ns
  pub decoded : number r.outcome ≡ 0 → Decodes s (take r.count at) ns
