-- The lines of a feed: how long they are, that the answers of an expression give its own lines, and that the answers' records, read back, give theirs.
use Prim.Native.Nat.{ℕ, ◌+◌, ◌*◌}
use mathlib.Core.Path.{◌≡◌, refl, ◌∙◌}
use mathlib.Core.List.{List, [], ◌∷◌, ◌++◌}
use native.Mathlib.Omega.{arith}
use native.Mathlib.Nat.{mod-add-div}
use lib.ListN.{length, get_or, drop, length-append}
use Rattle.par.specs.declared.Answer.{Answer}
use Rattle.par.specs.Expr.{Expr}
use Rattle.par.specs.Status.{status_of}
use Rattle.par.specs.Step.{remainder}
use Rattle.par.specs.Feed.{answers}
use Rattle.par.proofs.Tables.{status_of_byte}
use Rattle.engine.specs.Feed.{answer_bytes}
use Rattle.printout.specs.Text.{line, lines}
use Rattle.printout.specs.Mirror.Lines.{lines_of}
use Rattle.printout.proofs.Words.{line_long}

-- ---- the lines of answers

pub lines_of_long : (events : List ℕ) (rs : List Answer) → length rs ≡ length events → length (lines_of events rs) ≡ 16 * length events
unfolding lines_of
lines_of_long [] rs h = refl
lines_of_long (a ∷ events) [] h = omega arith
lines_of_long (a ∷ events) (r ∷ rs) h =
    length-append (line a r.notices r.status) (lines_of events rs)
    ∙ omega (arith, line_long a r.notices r.status, lines_of_long events rs (omega arith))

pub answers_many : (x : Expr) (events : List ℕ) → length (answers x events) ≡ length events
unfolding answers
answers_many x [] = refl
answers_many x (a ∷ events) = omega (arith, answers_many (remainder x a) events)

pub lines_answers : (x : Expr) (events : List ℕ) → lines_of events (answers x events) ≡ lines x events
unfolding lines_of answers lines
lines_answers x [] = refl
lines_answers x (a ∷ events) = rw (lines_answers (remainder x a) events)

-- ---- the lines of records

pub answer_bytes_long : (rs : List Answer) → length (answer_bytes rs) ≡ 7 * length rs
unfolding answer_bytes
answer_bytes_long [] = refl
answer_bytes_long (r ∷ rs) = omega (arith, answer_bytes_long rs)

-- as the code reads them: bytes 4 and 5 of a record are the notice set, byte 6 the status
unfoldable pub lines_in : List ℕ → List ℕ → List ℕ
lines_in [] records = []
lines_in (a ∷ events) records =
    line a (get_or records 4 0 + 256 * get_or records 5 0) (status_of (get_or records 6 0)) ++ lines_in events (drop 7 records)

pub lines_in_answers : (events : List ℕ) (rs : List Answer) → length rs ≡ length events → lines_in events (answer_bytes rs) ≡ lines_of events rs
unfolding lines_in lines_of answer_bytes
lines_in_answers [] rs h = refl
lines_in_answers (a ∷ events) [] h = absurd (omega arith)
lines_in_answers (a ∷ events) (r ∷ rs) h =
    rw (mod-add-div r.notices 256, status_of_byte r.status, lines_in_answers events rs (omega arith))
