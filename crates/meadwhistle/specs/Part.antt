-- The part of a proposal's two files that is shown: which file, and where in it the part begins.
use Rattle.std.specs.Prelude.{ℕ, cond, List, eqb, drop}
use Rattle.alike.specs.Proposal.{Verdict}
use Rattle.meadwhistle.specs.declared.Part.{Part}

-- file 0 is the expressions, 1 the pairs
abbrev pub part_of : Verdict → Part
part_of v = record { file = cond v.in_pairs 1 0; place = v.place }

-- the file that a part is of
abbrev pub file_in : Part → List ℕ → List ℕ → List ℕ
file_in p es ps = cond (eqb p.file 1) ps es

-- the bytes of a part: its file, cut at its place
abbrev pub cut_at : Part → List ℕ → List ℕ → List ℕ
cut_at p es ps = drop p.place (file_in p es ps)
