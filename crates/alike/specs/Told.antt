-- The verdict that the code's answer stands for: its refusal by document 01's number, 0 where there is none.
use Rattle.std.specs.Prelude.{Bool, true, false}
use Rattle.records.specs.declared.Contents.{Contents}
use Rattle.records.specs.declared.Contents.TheVariants.{Expressions, Pairs}
use Rattle.records.specs.Refusals.{number}
use Rattle.alike.specs.declared.Judged.{Judged}
use Rattle.alike.specs.Proposal.{Verdict, verdict}

abbrev pub in_pairs : Contents → Bool
in_pairs Expressions = false
in_pairs Pairs = true

abbrev pub told : Judged → Verdict
told j = verdict (number j.outcome) (in_pairs j.shown_in) j.place
