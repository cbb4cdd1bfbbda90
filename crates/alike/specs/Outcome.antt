-- The first fault among m pairs as the code keeps it, by its number.
use Rattle.std.specs.Prelude.{ℕ, Option, Some, None}
use Rattle.records.specs.Refusals.{number_of}
use Rattle.alike.specs.declared.verdict.Fault.{Fault}
use Rattle.alike.specs.Verdict.{Outcome, outcome}

abbrev pub outcome_of : Option Fault → ℕ → Outcome
outcome_of None m = outcome 0 m
outcome_of (Some f) m = outcome (number_of f.refusal) f.pair
