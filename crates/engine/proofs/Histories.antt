-- Whatever is done to a desk, made empty and changed by openings and steps only: every reply is what the figures give for the rule that was
-- accepted last, fresh, after the events since. A refused opening and a step on a closed desk leave no trace.
use Prim.Native.Nat.{ℕ}
use mathlib.Core.Path.{◌≡◌, refl, ap, ap₂, ◌∙◌}
use mathlib.Core.Bool.{Bool, true, false, cond}
use mathlib.Core.List.{List, [], ◌∷◌}
use lib.Dec.{eqb}
use borrow.Author.Tests.{eqb-true}
use Rattle.par.specs.Expr.{Expr}
use Rattle.par.specs.Feed.{Bytes}
use Rattle.files.specs.Rule.{rule, rule_number}
use Rattle.engine.specs.declared.Desk.{Desk}
use Rattle.engine.specs.declared.Moved.{Moved}
use Rattle.engine.specs.Mirror.Desk.{empty_desk, fresh_desk, opened_of, stepped_of}
use Rattle.engine.specs.History.{Call, Call.opening, Call.stepping, Back.numbered, Back.replied, BytesIn}
use Rattle.engine.specs.History.{Book, Book.closed, Book.«open», book_after, book_reply, book_back, books_after, books_back, Remains, ByTheBook}
use Rattle.engine.specs.History.{desk_after, desk_back, desks_after, desks_back}
use Rattle.engine.proofs.Desks.{closed_step}
use Rattle.engine.proofs.Sitting.{Sitting, fresh_sits, sitting_remains, step_sits, step_answers}

-- ---- a desk and its book

pub data Keeps (d : Desk) : Book → Type 0 where
  shut : d.is_open ≡ 0 → Keeps d closed
  sits : {x : Expr} {feed : List ℕ} → Sitting d x feed → Keeps d («open» x feed)

-- after one call, both go on together
pub record Together (d : Desk) (b : Book) (c : Call) : Type 0 where
  back : desk_back d c ≡ book_back b c
  pub after : Keeps (desk_after d c) (book_after b c)

open_keeps : (d e : Desk) (b c : Book) (t : Bool) → (t ≡ true → Keeps e c) → Keeps d b → Keeps (cond t e d) (cond t c b)
open_keeps d e b c true k l = k refl
open_keeps d e b c false k l = l

pub opens : (d : Desk) (b : Book) (s : List ℕ) → Bytes s → Keeps d b → Together d b (opening s)
unfolding opened_of
opens d b s bytes k =
    record {
      back = refl;
      after = open_keeps d (fresh_desk s) b («open» (rule s) []) (eqb (rule_number s) 0)
          (λ e. sits (fresh_sits s bytes (eqb-true (rule_number s) 0 e))) k;
    }

pub step_replies : (d : Desk) (b : Book) → Keeps d b → (a : ℕ) → (stepped_of d a).reply ≡ book_reply b a
step_replies d closed (shut e) a = ap (λ (m : Moved). m.reply) (closed_step d a e)
step_replies d («open» x feed) (sits s) a = step_answers d x feed s a

step_keeps : (d : Desk) (b : Book) → Keeps d b → (a : ℕ) → Keeps (stepped_of d a).desk (book_after b (stepping a))
step_keeps d closed (shut e) a = shut (ap (λ (m : Moved). m.desk.is_open) (closed_step d a e) ∙ e)
step_keeps d («open» x feed) (sits s) a = sits (step_sits d x feed s a)

pub steps : (d : Desk) (b : Book) (a : ℕ) → Keeps d b → Together d b (stepping a)
steps d b a k = record { back = ap replied (step_replies d b k a); after = step_keeps d b k a }

both : (calls : List Call) (d : Desk) (b : Book) → BytesIn calls → Keeps d b → desks_back d calls ≡ books_back b calls
unfolding desks_back books_back
both [] d b bytes k = refl
both (opening s ∷ calls) d b bytes k =
    let now = opens d b s bytes.0 k in
    ap₂ (λ c cs. c ∷ cs) now.back (both calls _ _ bytes.1 now.after)
both (stepping a ∷ calls) d b bytes k =
    let now = steps d b a k in
    ap₂ (λ c cs. c ∷ cs) now.back (both calls _ _ bytes now.after)

pub keeps_after : (calls : List Call) (d : Desk) (b : Book) → BytesIn calls → Keeps d b → Keeps (desks_after d calls) (books_after b calls)
unfolding desks_after books_after
keeps_after [] d b bytes k = k
keeps_after (opening s ∷ calls) d b bytes k = keeps_after calls _ _ bytes.1 (opens d b s bytes.0 k).after
keeps_after (stepping a ∷ calls) d b bytes k = keeps_after calls _ _ bytes (steps d b a k).after

pub keeps_empty : Keeps empty_desk closed
unfolding empty_desk
keeps_empty = shut refl

pub history : (calls : List Call) → BytesIn calls → desks_back empty_desk calls ≡ books_back closed calls
history calls bytes = both calls empty_desk closed bytes keeps_empty

-- ---- so of a call alone, on whatever desk such calls made

keeps_remains : (d : Desk) (b : Book) → Keeps d b → Remains d b
keeps_remains d closed (shut e) = e
keeps_remains d («open» x feed) (sits s) = sitting_remains d x feed s

kept : (d : Desk) (calls : List Call) → BytesIn calls → d ≡ desks_after empty_desk calls → Keeps d (books_after closed calls)
kept d calls bytes e = rw e (keeps_after calls empty_desk closed bytes keeps_empty)

pub step_by_the_book : (d : Desk) (a : ℕ) → ByTheBook d (stepping a) (replied (stepped_of d a).reply) (stepped_of d a).desk
step_by_the_book d a calls bytes e =
    let now = steps d (books_after closed calls) a (kept d calls bytes e) in
    (now.back, keeps_remains _ _ now.after)

pub open_by_the_book : (d : Desk) (s : List ℕ) → ByTheBook d (opening s) (numbered (opened_of d s).number) (opened_of d s).desk
open_by_the_book d s calls bytes e =
    let now = opens d (books_after closed calls) s bytes.0 (kept d calls bytes.1 e) in
    (now.back, keeps_remains _ _ now.after)
