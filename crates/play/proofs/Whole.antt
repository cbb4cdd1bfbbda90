-- One event on a whole rule: where the words say e, a step gives e's status, notices and lines, and leaves words that say what remains of e.
use Prim.Native.Nat.{ℕ, suc, ◌<◌}
use mathlib.Core.Path.{◌≡◌, refl, sym, ap, ◌∙◌}
use mathlib.Core.Bool.{Bool, true, false, cond}
use mathlib.Core.List.{List}
use native.Mathlib.Omega.{arith}
use lib.Dec.{eqb, leb}
use lib.Bits.{and_zero_l}
use lib.Count.{ones}
use borrow.Author.Tests.{ne_eqb, eqb-true, eqb-false, leb-true, leb-false}
use Rattle.par.specs.declared.Status.{Status}
use Rattle.par.specs.declared.Status.TheVariants.{Waiting, Success, Failure}
use Rattle.par.specs.Expr.{Expr, Expr.silent as Silent}
use Rattle.par.specs.Step.{status as status_of, notices as notices_of, lines as lines_of, remainder}
use Rattle.par.proofs.Sets.{none_join}
use Rattle.par.proofs.Order.{success_waiting, failure_waiting}
use Rattle.par.proofs.Figure4.{finished as nothing_left}
use Rattle.play.specs.declared.Moved.{Moved}
use Rattle.play.specs.Mirror.Masks.{bit, both, hit}
use Rattle.play.proofs.Compared.{upto, Only}
use Rattle.play.specs.declared.ends.Words.{Words}
use Rattle.play.specs.Mirror.Down.{words, Made, made, down}
use Rattle.play.specs.Mirror.Step.{comes, rested, moved, moved_by, stepped_by, stepped}
use Rattle.play.proofs.Plays.{Plays, Stands, Stands.goes, Stands.over}
use Rattle.play.proofs.Digits.{and_true, bit_both, none_zero}
use Rattle.play.proofs.Spans.{hit_false}
use Rattle.play.proofs.Counts.{upto_flat, ones_upto}
use Rattle.play.proofs.Comes.{comes_below, comes_small, comes_none, still}
use Rattle.play.proofs.Ranges.{only_small, agree_self, clear_none}
use Rattle.play.proofs.Frame.{some_in, frame}
use Rattle.play.proofs.Rests.{done}
use Rattle.play.proofs.Did.{Ready, Did}
use Rattle.play.proofs.Right.{idle, does}

-- what a step of a rule that says e gives
pub record Good (F G : List ℕ) (L R root a : ℕ) (e : Expr) (m : Moved) : Type 0 where
  pub status : m.status ≡ status_of e a
  pub notices : m.notices ≡ notices_of e a
  pub lines : m.lines ≡ lines_of e a
  pub stands : Stands F G L R root m.active m.going (remainder e a)

abbrev start : ℕ → ℕ → Words
start R A = words A (both A R) A 0

-- a rule that has completed has nothing in play, and nothing comes
pub finished : (F G : List ℕ) (L R root a : ℕ)
    → stepped F G L R root a 0 ≡ record { status = Waiting; notices = 0; lines = 1; active = 0; going = 0 }
unfolding stepped stepped_by both
finished F G L R root a = rw (comes_none F L a, and_zero_l R) refl

module _ {F G : List ℕ} {L R root : ℕ} (a : ℕ) (few : root < 64) where
  module _ {A W : ℕ} {e : Expr} (m : Plays F G L R A W 0 root e) (o : Only 0 root A) where
    ready : Ready F L R (comes F L a A 64) a A 0 root (start R A)
    ready =
        record {
          play = agree_self;
          goes = λ q h k. bit_both A R q;
          counted = agree_self;
          due = λ q l k. comes_below F L a A 64 q (omega arith);
        }

    alone : {k : Made} → Did F G L R a 0 root e (start R A) k → Only 0 root k.after.active
    alone did = record { below = λ q l. absurd (omega arith); above = λ q l. did.beside.active.above q l ∙ o.above q l }

    counts : {k : Made} → Did F G L R a 0 root e (start R A) k → ones k.after.counted ≡ lines_of e a
    unfolding upto
    counts {k} did =
        let M = k.after.counted in
        let out : Only 0 root M = record { below = λ q l. absurd (omega arith); above = λ q l. did.beside.counted.above q l ∙ o.above q l } in
        ones_upto 64 M (only_small few out) ∙ upto_flat M (suc root) 64 (omega arith) (λ q l h. out.above q l) ∙ did.lines M agree_self ∙ omega arith

    none : {k : Made} → Did F G L R a 0 root e (start R A) k → done (status_of e a) ≡ true → k.after.active ≡ 0
    none {k} did d = none_zero 64 k.after.active (only_small few (alone did)) (λ q h. go q (leb q root) refl)
      where
        go : (q : ℕ) (t : Bool) → leb q root ≡ t → bit k.after.active q ≡ false
        go q true l = (did.off d).off q (omega arith) (leb-true q root l)
        go q false l = (alone did).above q (leb-false q root l)

    stays : {k : Made} → Did F G L R a 0 root e (start R A) k → (s : Status) → status_of e a ≡ s
        → Stands F G L R root k.after.active (both k.after.going k.after.active) (remainder e a)
    stays {k} did Waiting i =
        goes
        (frame agree_self
        (record { at = λ q h l p. bit_both k.after.going k.after.active q ∙ rw p (and_true (bit k.after.going q)) }) (did.plays i))
        (alone did)
    stays did Success i = rw (nothing_left e a (λ w. success_waiting (sym i ∙ w))) (over (none did (ap done i)))
    stays did Failure i = rw (nothing_left e a (λ w. failure_waiting (sym i ∙ w))) (over (none did (ap done i)))

    moves : {k : Made} → Did F G L R a 0 root e (start R A) k → Good F G L R root a e (moved k)
    moves did =
        record {
          status = did.status;
          notices = did.sent ∙ none_join (notices_of e a);
          lines = counts did;
          stands = stays did (status_of e a) refl;
        }

    -- no event in play came
    rests : Did F G L R a 0 root e (start R A) (made Waiting (start R A)) → Good F G L R root a e (rested R A)
    rests did =
        record {
          status = did.status;
          notices = did.sent ∙ none_join (notices_of e a);
          lines = rw (ne_eqb A 0 (λ z. some_in m (clear_none z))) (counts did);
          stands = goes (did.plays (sym did.status)) o;
        }

    due_zero : hit (comes F L a A 64) 0 root ≡ false → comes F L a A 64 ≡ 0
    due_zero h = none_zero 64 (comes F L a A 64) (comes_small F L a A) (λ q l. go q l (leb q root) refl)
      where
        go : (q : ℕ) → q < 64 → (t : Bool) → leb q root ≡ t → bit (comes F L a A 64) q ≡ false
        go q l true i = (hit_false (comes F L a A 64) 0 root h).off q (omega arith) (leb-true q root i)
        go q l false i = comes_below F L a A 64 q l ∙ still F L a A q (o.above q (leb-false q root i))

    goods : (t : Bool) → eqb (comes F L a A 64) 0 ≡ t
        → Good F G L R root a e (cond t (rested R A) (moved (down F G (comes F L a A 64) (suc root) 0 root (start R A))))
    goods true i = rests (idle m ready (clear_none (eqb-true (comes F L a A 64) 0 i)))
    goods false i = moves (does (suc root) m (omega arith) (comes_small F L a A) ready (came (hit (comes F L a A 64) 0 root) refl))
      where
        came : (t : Bool) → hit (comes F L a A 64) 0 root ≡ t → t ≡ true
        came true j = refl
        came false j = absurd (eqb-false (comes F L a A 64) 0 i (due_zero j))

  over_good : Good F G L R root a Silent (stepped F G L R root a 0)
  unfolding status_of notices_of lines_of remainder
  over_good = rw (finished F G L R root a) (record { status = refl; notices = refl; lines = refl; stands = over refl })

  pub right : {A W : ℕ} {e : Expr} → Stands F G L R root A W e → Good F G L R root a e (stepped F G L R root a A)
  unfolding stepped stepped_by moved_by
  right {A} (goes m o) = goods m o (eqb (comes F L a A 64) 0) refl
  right (over z) = rw z over_good
