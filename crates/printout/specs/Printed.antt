-- What a reader must believe of printing: what it leaves in the output.
use Rattle.std.specs.Prelude.{ℕ, ◌≡◌, cond, List, length, leb}
use Rattle.std.proofs.lemmas.List.Edits.{sets}

-- the text is written at the front where it fits; where it does not, no byte changes
pub record PrintedAs (text output : List ℕ) (n : ℕ) (output' : List ℕ) : Type 0 where
  pub long : n ≡ length text
  pub bytes : output' ≡ cond (leb (length text) (length output)) (sets output 0 text) output
