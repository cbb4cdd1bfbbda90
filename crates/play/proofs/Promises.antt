-- What this crate promises beside its contracts, each theorem whole, with the file that proves it cited. Assumes nothing: there is no axiom in the crate.
use Prim.Native.Nat.{ℕ, ◌^◌, ◌≤◌, ◌<◌}
use mathlib.Core.Path.{◌≡◌}
use mathlib.Core.Bool.{true}
use mathlib.Core.List.{List}
use Rattle.par.specs.declared.Status.TheVariants.{Waiting}
use Rattle.par.specs.Expr.{Expr}
use Rattle.play.specs.Said.{remains}
use Rattle.play.specs.Mirror.Masks.{both, hit}
use Rattle.play.proofs.Compared.{Clear}
use Rattle.play.specs.declared.ends.Words.{Words}
use Rattle.play.specs.Mirror.Down.{made, down}
use Rattle.play.specs.Mirror.Step.{comes, stepped}
use Rattle.play.proofs.Plays.{Plays, Stands}
use Rattle.play.proofs.Whole.{Good}
use Rattle.play.proofs.Whole
use Rattle.play.proofs.Exact
use Rattle.play.proofs.Did.{Ready, Did}
use Rattle.play.proofs.Right
use Rattle.play.proofs.Comes
use Rattle.play.proofs.Few
use Rattle.play.specs.declared.kinds.Kind.{Kind}
use Rattle.play.specs.Mirror.Nodes.{kind_number}
use Rattle.play.proofs.KindNumbers

-- ---- One event on a whole rule is what the figures say: it gives the status, notices and lines of the expression that the two words stand for, and
-- leaves words that stand for what remains of it

pub right : {F G : List ℕ} {L R root A W : ℕ} {e : Expr} (a : ℕ) → root < 64 → Stands F G L R root A W e
    → Good F G L R root a e (stepped F G L R root a A)
right a few m = Whole.right a few m

-- ---- The two words fix the expression that is in play, and that of a whole rule

pub plays_one : {F G : List ℕ} {L R A W lo r : ℕ} {d e : Expr} → A < 2 ^ 64 → Plays F G L R A W lo r d → Plays F G L R A W lo r e → d ≡ e
plays_one = Exact.plays_one

pub stands_said : {F G : List ℕ} {L R root A W : ℕ} {e : Expr} → root < 64 → Stands F G L R root A W e → remains F G root A W ≡ e
stands_said = Exact.stands_said

pub stands_one : {F G : List ℕ} {L R root A W : ℕ} {d e : Expr} → root < 64 → Stands F G L R root A W d → Stands F G L R root A W e → d ≡ e
stands_one = Exact.stands_one

-- ---- Where no event in play came, an expression waits, tells nothing, counts its nodes in play, and only its repeats go on

pub idle : {F G : List ℕ} {L R T a A W lo r : ℕ} {e : Expr} {st : Words} → Plays F G L R A W lo r e → Ready F L R T a A lo r st → Clear T lo r
    → Did F G L R a lo r e st (made Waiting st)
idle = Right.idle

-- ---- Where one came, going down gives the expression's status, notices and lines, and leaves words that play what remains of it

pub does : {F G : List ℕ} {L R T a A W lo r : ℕ} {e : Expr} {st : Words} (f : ℕ) → Plays F G L R A W lo r e → r < f → T < 2 ^ 64
    → Ready F L R T a A lo r st → hit T lo r ≡ true → Did F G L R a lo r e st (down F G T f lo r st)
does = Right.does

-- ---- The events in play that came, by a table: of all events of the rule with this byte, made once, those that are in play

pub met_by_table : (F : List ℕ) (L a A : ℕ) → both A (comes F L a L 64) ≡ comes F L a A 64
met_by_table = Comes.met_by_table

-- ---- On any nodes whatever a step has at most 64 lines

pub lines_few : (F G : List ℕ) (L R root a A : ℕ) → A < 2 ^ 64 → (stepped F G L R root a A).lines ≤ 64
lines_few = Few.lines_few

-- ---- A rule that has completed waits from then on, on any nodes whatever: one line an event, no notice, and nothing in play

pub finished : (F G : List ℕ) (L R root a : ℕ)
    → stepped F G L R root a 0 ≡ record { status = Waiting; notices = 0; lines = 1; active = 0; going = 0 }
finished = Whole.finished

-- ---- A kind is known by its number

pub kind_one : (k k' : Kind) → kind_number k ≡ kind_number k' → k ≡ k'
kind_one k k' = KindNumbers.kind_one
