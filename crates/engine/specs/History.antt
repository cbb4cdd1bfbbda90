-- What a reader must believe of a desk: whatever openings and steps made it of an empty one, a book keeps the rule that was accepted last and the
-- events since, and the figures say the rest. `empty_desk`, `opened_of` and `stepped_of` only name what the calls do.
use Rattle.std.specs.Prelude.{ℕ, ◌≡◌, cond, Result, Ok, Err, List, [], ◌∷◌, ◌++◌, eqb}
use Rattle.par.specs.declared.Answer.{Answer}
use Rattle.par.specs.Status.{status_byte}
use Rattle.par.specs.Expr.{Expr}
use Rattle.par.specs.Feed.{answer, after, Bytes}
use Rattle.records.specs.declared.refusal.Refusal.{Refusal}
use Rattle.records.specs.declared.refusal.Refusal.TheVariants.{NoRuleOpen}
use Rattle.files.specs.Rule.{rule, rule_number}
use Rattle.play.specs.Said.{remains}
use Rattle.engine.specs.declared.Desk.{Desk}
use Rattle.engine.specs.Feed.{answer_record}
use Rattle.engine.specs.Reply.{said}
use Rattle.engine.specs.Mirror.Desk.{empty_desk, opened_of, stepped_of}

-- a call on a desk, and what comes back of it
pub data Call : Type 0 where
  opening : List ℕ → Call
  stepping : ℕ → Call

pub data Back : Type 0 where
  numbered : ℕ → Back
  replied : Result Answer Refusal → Back

-- every rule file is bytes
abbrev pub BytesIn : List Call → Type 0
BytesIn [] = Unit {0}
BytesIn (opening s ∷ calls) = Bytes s × BytesIn calls
BytesIn (stepping a ∷ calls) = BytesIn calls

-- ---- the desk, as the code moves it

abbrev pub desk_after : Desk → Call → Desk
desk_after d (opening s) = (opened_of d s).desk
desk_after d (stepping a) = (stepped_of d a).desk

abbrev pub desk_back : Desk → Call → Back
desk_back d (opening s) = numbered (opened_of d s).number
desk_back d (stepping a) = replied (stepped_of d a).reply

unfoldable pub desks_after : Desk → List Call → Desk
desks_after d [] = d
desks_after d (c ∷ calls) = desks_after (desk_after d c) calls

unfoldable pub desks_back : Desk → List Call → List Back
desks_back d [] = []
desks_back d (c ∷ calls) = desk_back d c ∷ desks_back (desk_after d c) calls

-- the records of the replies among what came back
unfoldable pub back_bytes : List Back → List ℕ
back_bytes [] = []
back_bytes (numbered n ∷ backs) = back_bytes backs
back_bytes (replied r ∷ backs) = answer_record (said r).notices (status_byte (said r).status) ++ back_bytes backs

-- ---- the book

pub data Book : Type 0 where
  closed : Book
  «open» : Expr → List ℕ → Book

abbrev pub book_after : Book → Call → Book
book_after b (opening s) = cond (eqb (rule_number s) 0) («open» (rule s) []) b
book_after closed (stepping a) = closed
book_after («open» x feed) (stepping a) = «open» x (feed ++ (a ∷ []))

-- the reply to an event: refused with 15 where no rule is open, else what the figures answer for the rule after the events since
abbrev pub book_reply : Book → ℕ → Result Answer Refusal
book_reply closed a = Err NoRuleOpen
book_reply («open» x feed) a = Ok (answer (after x feed) a)

abbrev pub book_back : Book → Call → Back
book_back b (opening s) = numbered (rule_number s)
book_back b (stepping a) = replied (book_reply b a)

unfoldable pub books_back : Book → List Call → List Back
books_back b [] = []
books_back b (c ∷ calls) = book_back b c ∷ books_back (book_after b c) calls

unfoldable pub books_after : Book → List Call → Book
books_after b [] = b
books_after b (c ∷ calls) = books_after (book_after b c) calls

-- ---- what a call means

-- what is left of the rule on a desk is what the book says
abbrev pub Remains : Desk → Book → Type 0
Remains d closed = d.is_open ≡ 0
Remains d («open» x feed) = remains d.nodes d.gain d.root d.active d.going ≡ after x feed

-- on every desk that openings and steps made of an empty one: the call gives back what the book says, and leaves what the book says
abbrev pub ByTheBook : Desk → Call → Back → Desk → Type 0
ByTheBook d c back d' =
    (calls : List Call) → BytesIn (c ∷ calls) → d ≡ desks_after empty_desk calls
    → (back ≡ book_back (books_after closed calls) c) × Remains d' (book_after (books_after closed calls) c)
