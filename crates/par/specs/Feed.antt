-- What an expression answers to a feed, event by event. A feed is a list of numbers, a feed of bytes one of numbers below 256.
use Rattle.std.specs.Prelude.{ℕ, ◌<◌, List, [], ◌∷◌, map}
use Rattle.par.specs.declared.Status.{Status}
use Rattle.par.specs.declared.Answer.{Answer}
use Rattle.par.specs.Expr.{Expr}
use Rattle.par.specs.Step.{status, notices, remainder, lines}

abbrev pub answer : Expr → ℕ → Answer
answer x a = record { notices = notices x a; lines = lines x a; status = status x a }

unfoldable pub answers : Expr → List ℕ → List Answer
answers x [] = []
answers x (a ∷ feed) = answer x a ∷ answers (remainder x a) feed

-- what is left of an expression after a feed
unfoldable pub after : Expr → List ℕ → Expr
after x [] = x
after x (a ∷ feed) = after (remainder x a) feed

abbrev pub notices_on : Expr → List ℕ → List ℕ
notices_on x feed = map (λ r. r.notices) (answers x feed)

abbrev pub statuses_on : Expr → List ℕ → List Status
statuses_on x feed = map (λ r. r.status) (answers x feed)

abbrev pub lines_on : Expr → List ℕ → List ℕ
lines_on x feed = map (λ r. r.lines) (answers x feed)

abbrev pub Bytes : List ℕ → Type 0
Bytes [] = Unit {0}
Bytes (a ∷ feed) = (a < 256) × Bytes feed
