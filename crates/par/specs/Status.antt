-- The three statuses, their order failure < waiting < success, and what the figures do with them.
use Rattle.std.specs.Prelude.{ℕ, cond, eqb}
use Rattle.par.specs.declared.Status.{Status}
use Rattle.par.specs.declared.Status.TheVariants.{Waiting, Success, Failure}

-- the place of a status in the order, lowest first
abbrev pub rank : Status → ℕ
rank Failure = 0
rank Waiting = 1
rank Success = 2

-- c ∨ d of figure 3
abbrev pub higher : Status → Status → Status
higher Waiting Waiting = Waiting
higher Waiting Success = Success
higher Waiting Failure = Waiting
higher Success d = Success
higher Failure d = d

-- c ∧ d of figure 3
abbrev pub lower : Status → Status → Status
lower Waiting Waiting = Waiting
lower Waiting Success = Waiting
lower Waiting Failure = Failure
lower Success d = d
lower Failure d = Failure

-- success and failure exchanged
abbrev pub opposite : Status → Status
opposite Waiting = Waiting
opposite Success = Failure
opposite Failure = Success

-- the status of `try x unless y`: x's if x completed; else failure if y succeeded; else waiting
abbrev pub tried : Status → Status → Status
tried Waiting d = lower (opposite d) Waiting
tried Success d = Success
tried Failure d = Failure

-- the byte of a status in an answer record
abbrev pub status_byte : Status → ℕ
status_byte Waiting = 0
status_byte Success = 1
status_byte Failure = 2

-- the status that a byte stands for; one that stands for none counts as failure
unfoldable pub status_of : ℕ → Status
status_of b = cond (eqb b 0) Waiting (cond (eqb b 1) Success Failure)
