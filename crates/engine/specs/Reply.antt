-- What a step's reply says, the refused included: then the notices are none, the lines 0, and the status is waiting.
use Rattle.std.specs.Prelude.{Result, Ok, Err}
use Rattle.par.specs.declared.Answer.{Answer}
use Rattle.par.specs.declared.Status.TheVariants.{Waiting}
use Rattle.records.specs.declared.refusal.Refusal.{Refusal}

abbrev pub said : Result Answer Refusal → Answer
said (Ok r) = r
said (Err e) = record { notices = 0; lines = 0; status = Waiting }
