-- What a reader must believe of a step's cost, in lines: after whatever went before, no more than the rule that was accepted last has nodes.
use Rattle.std.specs.Prelude.{ℕ, ◌≤◌, ◌≡◌, ◌≢◌, List, [], ◌∷◌}
use Rattle.par.specs.Expr.{size}
use Rattle.files.specs.Rule.{rule_number}
use Rattle.engine.specs.declared.Desk.{Desk}
use Rattle.engine.specs.Reply.{said}
use Rattle.engine.specs.Mirror.Desk.{empty_desk}
use Rattle.engine.specs.History.{Call, Call.opening, Call.stepping, Back, Back.numbered, Back.replied, BytesIn}
use Rattle.engine.specs.History.{Book, Book.closed, Book.«open», desks_after, books_after}

-- the size of the rule that was accepted last; 0 before any was
abbrev pub rule_size : Book → ℕ
rule_size closed = 0
rule_size («open» x feed) = size x

-- whatever openings and steps made the desk of an empty one, n is at most that size
abbrev pub WithinRule : Desk → ℕ → Type 0
WithinRule d n = (calls : List Call) → BytesIn calls → d ≡ desks_after empty_desk calls → n ≤ rule_size (books_after closed calls)

-- ---- over a history

-- steps and refused openings: the rule accepted last stays the same
abbrev pub NoneAccepted : List Call → Type 0
NoneAccepted [] = Unit {0}
NoneAccepted (opening s ∷ calls) = (rule_number s ≢ 0) × NoneAccepted calls
NoneAccepted (stepping a ∷ calls) = NoneAccepted calls

-- each reply has at most n lines
abbrev pub LinesUpTo : ℕ → List Back → Type 0
LinesUpTo n [] = Unit {0}
LinesUpTo n (numbered k ∷ backs) = LinesUpTo n backs
LinesUpTo n (replied r ∷ backs) = ((said r).lines ≤ n) × LinesUpTo n backs
