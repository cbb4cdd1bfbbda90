-- What an expression does on one event: document 01's table as three functions, the lines that a step uses, and the nodes that it makes.
use Rattle.std.specs.Prelude.{ℕ, ◌+◌, Bool, true, false, eqb}
use Rattle.par.specs.declared.Status.{Status}
use Rattle.par.specs.declared.Status.TheVariants.{Waiting, Success, Failure}
use Rattle.par.specs.Status.{opposite, higher, lower, tried}
use Rattle.par.specs.Expr.{Expr, join}
use Rattle.par.specs.Expr.{Expr.silent, Expr.event, Expr.not, Expr.either, Expr.then, Expr.repeat, Expr.notify, Expr.try}

-- ---- status

-- the status of an event by whether it came
abbrev pub met : Bool → Status
met true = Success
met false = Waiting

unfoldable pub status : Expr → ℕ → Status
status silent a = Waiting
status (event b) a = met (eqb b a)
status (not x) a = opposite (status x a)
status (either x y) a = higher (status x a) (status y a)
status (then x y) a = lower (status x a) Waiting
status (repeat x) a = lower (status x a) Waiting
status (notify x A) a = status x a
status (try x y) a = tried (status x a) (status y a)

-- ---- notices

-- o, joined with A if the part succeeded
abbrev pub pushed : Status → ℕ → ℕ → ℕ
pushed Waiting o A = o
pushed Success o A = join o A
pushed Failure o A = o

unfoldable pub notices : Expr → ℕ → ℕ
notices silent a = 0
notices (event b) a = 0
notices (not x) a = notices x a
notices (either x y) a = join (notices x a) (notices y a)
notices (then x y) a = notices x a
notices (repeat x) a = notices x a
notices (notify x A) a = pushed (status x a) (notices x a) A
notices (try x y) a = join (notices x a) (notices y a)

-- ---- what remains, from the statuses of the parts that step and from what remains of them

-- of a construct with one part: e while the part waits
abbrev pub kept : Status → Expr → Expr
kept Waiting e = e
kept Success e = silent
kept Failure e = silent

abbrev pub then_rest : Status → Expr → Expr → Expr
then_rest Waiting x y = then x y
then_rest Success x y = y
then_rest Failure x y = silent

abbrev pub either_rest : Status → Status → Expr → Expr → Expr
either_rest Waiting Waiting x y = either x y
either_rest Waiting Success x y = silent
either_rest Waiting Failure x y = x
either_rest Success d x y = silent
either_rest Failure Waiting x y = y
either_rest Failure Success x y = silent
either_rest Failure Failure x y = silent

abbrev pub try_rest : Status → Status → Expr → Expr → Expr
try_rest Waiting Waiting x y = try x y
try_rest Waiting Success x y = silent
try_rest Waiting Failure x y = x
try_rest Success d x y = silent
try_rest Failure d x y = silent

unfoldable pub remainder : Expr → ℕ → Expr
remainder silent a = silent
remainder (event b) a = kept (met (eqb b a)) (event b)
remainder (not x) a = kept (status x a) (not (remainder x a))
remainder (either x y) a = either_rest (status x a) (status y a) (remainder x a) (remainder y a)
remainder (then x y) a = then_rest (status x a) (remainder x a) y
remainder (repeat x) a = then_rest (status x a) (remainder x a) (repeat x)
remainder (notify x A) a = kept (status x a) (notify (remainder x a) A)
remainder (try x y) a = try_rest (status x a) (status y a) (remainder x a) (remainder y a)

-- ---- what a step costs

-- the lines of `try x unless y` from x's status and both parts' lines: figure 3's rule for an x that completes asks nothing of y
abbrev pub try_lines : Status → ℕ → ℕ → ℕ
try_lines Waiting n m = n + m + 1
try_lines Success n m = n + 1
try_lines Failure n m = n + 1

-- the lines of the status rules that it uses, as document 01 counts them, and for try document 02 (T-06)
unfoldable pub lines : Expr → ℕ → ℕ
lines silent a = 1
lines (event b) a = 1
lines (not x) a = lines x a + 1
lines (either x y) a = lines x a + lines y a + 1
lines (then x y) a = lines x a + 1
lines (repeat x) a = lines x a + 1
lines (notify x A) a = lines x a + 1
lines (try x y) a = try_lines (status x a) (lines x a) (lines y a)

-- the nodes that it makes, at most: one for each construct around a part that steps; what is carried over as it stands costs none
unfoldable pub made : Expr → ℕ
made silent = 0
made (event b) = 0
made (not x) = made x + 1
made (either x y) = made x + made y + 1
made (then x y) = made x + 1
made (repeat x) = made x + 1
made (notify x A) = made x + 1
made (try x y) = made x + made y + 1
