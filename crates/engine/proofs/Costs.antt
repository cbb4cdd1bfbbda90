-- No step grows dear: on a desk made empty and changed by openings and steps only, each step reports at most as many lines as the rule that was
-- accepted last has nodes.
use Prim.Native.Nat.{ℕ, ◌≤◌}
use mathlib.Core.Path.{◌≡◌, refl, ◌∙◌}
use mathlib.Core.Logic.{◌≢◌}
use mathlib.Core.List.{List, [], ◌∷◌}
use native.Mathlib.Nat.{le_refl}
use borrow.Author.Tests.{ne_eqb}
use Rattle.files.specs.Rule.{rule_number}
use Rattle.engine.specs.declared.Desk.{Desk}
use Rattle.engine.specs.Reply.{said}
use Rattle.engine.specs.Mirror.Desk.{empty_desk, stepped_of}
use Rattle.engine.specs.History.{Call, Call.opening, Call.stepping, BytesIn, Book, Book.closed, Book.«open»}
use Rattle.engine.specs.History.{book_after, books_after, desks_after, desks_back}
use Rattle.engine.specs.Cost.{rule_size, WithinRule, NoneAccepted, LinesUpTo}
use Rattle.engine.proofs.Desks.{closed_step}
use Rattle.engine.proofs.Sitting.{step_lines}
use Rattle.engine.proofs.Histories.{Keeps, Keeps.shut, Keeps.sits, opens, steps, keeps_after, keeps_empty}

step_few : (d : Desk) (b : Book) → Keeps d b → (a : ℕ) → (said (stepped_of d a).reply).lines ≤ rule_size b
step_few d closed (shut e) a = rw (closed_step d a e) (le_refl 0)
step_few d («open» x feed) (sits s) a = step_lines d x feed s a

pub step_within : (d : Desk) (a : ℕ) → WithinRule d (said (stepped_of d a).reply).lines
step_within d a calls bytes e = step_few d (books_after closed calls) (rw e (keeps_after calls empty_desk closed bytes keeps_empty)) a

-- ---- over a history

refused_size : (b : Book) (s : List ℕ) → rule_number s ≢ 0 → rule_size (book_after b (opening s)) ≡ rule_size b
refused_size b s h = rw (ne_eqb (rule_number s) 0 h)

step_size : (b : Book) (a : ℕ) → rule_size (book_after b (stepping a)) ≡ rule_size b
step_size closed a = refl
step_size («open» x feed) a = refl

-- the next call, if it is an opening, was refused
refused_next : (s : List ℕ) (later : List Call) → NoneAccepted (opening s ∷ later) → (rule_number s ≢ 0) × NoneAccepted later
refused_next s later none = none

few : (later : List Call) (n : ℕ) (d : Desk) (b : Book) → rule_size b ≡ n → BytesIn later → NoneAccepted later → Keeps d b → LinesUpTo n (desks_back d later)
unfolding desks_back
few [] n d b e bytes none k = tt
few (opening s ∷ later) n d b e bytes none k =
    let next = refused_next s later none in
    few later n _ _ (refused_size b s next.0 ∙ e) bytes.1 next.1 (opens d b s bytes.0 k).after
few (stepping a ∷ later) n d b e bytes none k =
    (rw e at (step_few d b k a), few later n _ _ (step_size b a ∙ e) bytes none (steps d b a k).after)

pub history_lines : (calls later : List Call) → BytesIn calls → BytesIn later → NoneAccepted later
    → LinesUpTo (rule_size (books_after closed calls)) (desks_back (desks_after empty_desk calls) later)
history_lines calls later bytes bytes' none = few later _ _ _ refl bytes' none (keeps_after calls empty_desk closed bytes keeps_empty)
