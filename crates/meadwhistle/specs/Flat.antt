-- What a reader must believe of a reply over C: the same numbers in one struct, and that it is the book's.
use Rattle.std.specs.Prelude.{ℕ, ◌≡◌, List, Result}
use Rattle.par.specs.declared.Answer.{Answer}
use Rattle.par.specs.Status.{status_byte}
use Rattle.records.specs.declared.refusal.Refusal.{Refusal}
use Rattle.records.specs.Refusals.{number}
use Rattle.engine.specs.declared.Desk.{Desk}
use Rattle.engine.specs.Reply.{said}
use Rattle.engine.specs.Mirror.Desk.{empty_desk}
use Rattle.engine.specs.History.{Call, Call.stepping, BytesIn, Book.closed, desks_after, books_after, book_after, book_reply, Remains}
use Rattle.meadwhistle.specs.declared.FlatReply.{FlatReply}

abbrev pub flat_reply : Result Answer Refusal → FlatReply
flat_reply r = record { number = number r; status = status_byte (said r).status; notices = (said r).notices; lines = (said r).lines }

-- on every desk that openings and steps made of an empty one: the reply is the book's, and what is left is what the book says
abbrev pub FlatByTheBook : Desk → ℕ → FlatReply → Desk → Type 0
FlatByTheBook d a r d' =
    (calls : List Call) → BytesIn calls → d ≡ desks_after empty_desk calls
    → (r ≡ flat_reply (book_reply (books_after closed calls) a)) × Remains d' (book_after (books_after closed calls) (stepping a))
