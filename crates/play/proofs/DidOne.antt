-- What one event does to a leaf; and to a node one of whose parts steps, from what it did to that part.
use Prim.Native.Nat.{ℕ, suc, ◌+◌, ◌≤◌, ◌<◌}
use mathlib.Core.Path.{◌≡◌, refl, sym, ap, ◌∙◌}
use mathlib.Core.Bool.{Bool, true, false, cond, false≢true}
use mathlib.Core.List.{List}
use native.Mathlib.Omega.{arith}
use lib.Dec.{eqb}
use Rattle.par.specs.declared.Status.{Status}
use Rattle.par.specs.declared.Status.TheVariants.{Waiting, Success, Failure}
use Rattle.par.specs.Expr.{Expr, join}
use Rattle.par.specs.Expr.{Expr.silent as Silent, Expr.event as Event, Expr.not as Not, Expr.then as Then, Expr.repeat as Repeat, Expr.notify as Notify}
use Rattle.par.specs.Step.{pushed, status as status_of, notices as notices_of, lines as lines_of, remainder}
use Rattle.par.proofs.Order.{success_waiting}
use Rattle.par.proofs.Sets.{join_assoc, join_none}
use Rattle.play.specs.Mirror.Masks.{bit, one, less}
use Rattle.play.proofs.Compared.{upto, Agree, Only}
use Rattle.play.specs.Mirror.Nodes.{first_at, gain_at}
use Rattle.play.specs.declared.ends.Words.{Words}
use Rattle.play.specs.Mirror.Down.{words, Made, made, one_status, one_active, one_going, one_sent, one_end}
use Rattle.play.proofs.Plays.{None, One, Plays, Plays.silent, Plays.event}
use Rattle.play.proofs.Digits.{less_self}
use Rattle.play.proofs.Ranges.{same_self, same_less, only_wider, agree_within, clear_one}
use Rattle.play.proofs.Rests.{one_same_active, one_same_going, one_off, not_left, notify_left, repeat_left}
use Rattle.play.proofs.Tests.{by_test}
use Rattle.play.proofs.Did.{Ready, Did, At, beside_self, beside_on, beside_wider, at_behind, counts}

-- ---- a leaf

module _ {F : List ℕ} {L R T a A r : ℕ} {st : Words} (before : Ready F L R T a A r r st) (p : bit A r ≡ true) where
  leaf_lines : (M : ℕ) → Agree r r st.counted M → upto M (suc r) ≡ upto M r + 1
  leaf_lines M k =
      counts M r r 0 (k.at r (omega arith) (omega arith) ∙ before.counted.at r (omega arith) (omega arith) ∙ p) (omega arith)

  leaf_play : bit st.active r ≡ true
  leaf_play = before.play.at r (omega arith) (omega arith) ∙ p

  pub silent_did : {G : List ℕ} → None F 1 r → bit L r ≡ false → Did F G L R a r r Silent st (made Waiting st)
  unfolding status_of notices_of lines_of remainder
  silent_did at l =
      record {
        status = refl;
        sent = sym (join_none st.notices);
        lines = leaf_lines;
        plays = λ w. silent at l leaf_play;
        off = λ (w : false ≡ true). absurd (false≢true w);
        beside = beside_self;
      }

  -- an event that did not come, and one that came
  pub event_idle : {G : List ℕ} {b : ℕ} → None F 2 r → bit L r ≡ true → first_at F r ≡ b → eqb b a ≡ false
      → Did F G L R a r r (Event b) st (made Waiting st)
  unfolding status_of notices_of lines_of remainder
  event_idle {b = b} at l i c =
      record {
        status = rw c refl;
        sent = sym (join_none st.notices);
        lines = leaf_lines;
        plays = λ w. rw c (event at l i leaf_play);
        off = λ w. absurd (false≢true (rw c at w));
        beside = beside_self;
      }

  pub event_did : {G : List ℕ} {b : ℕ} → None F 2 r → eqb b a ≡ true
      → Did F G L R a r r (Event b) st (made Success (words (less st.active (one r)) st.going st.counted st.notices))
  unfolding status_of notices_of lines_of remainder
  event_did {b = b} at c =
      record {
        status = rw c refl;
        sent = sym (join_none st.notices);
        lines = leaf_lines;
        plays = λ w. absurd (success_waiting (rw c at w));
        off = λ w. clear_one (less_self st.active r);
        beside = record { active = same_less st.active r (omega arith); going = same_self; counted = same_self };
      }

-- ---- one part, of a node of any kind: u is what the node stands for

one_sends : (kind : ℕ) (s : Status) (gain S n : ℕ) → one_sent kind s gain (join S n) ≡ join S (cond (eqb kind 7) (pushed s n gain) n)
unfolding one_sent
one_sends kind Waiting gain S n = by_test (λ k. join S n ≡ join S k) (eqb kind 7) (λ _. refl) (λ _. refl)
one_sends kind Success gain S n = go (eqb kind 7)
  where
    go : (b : Bool) → cond b (join (join S n) gain) (join S n) ≡ join S (cond b (join n gain) n)
    go true = sym (join_assoc S n gain)
    go false = refl
one_sends kind Failure gain S n = by_test (λ k. join S n ≡ join S k) (eqb kind 7) (λ _. refl) (λ _. refl)

pub one_did : {F G : List ℕ} {L R a lo x r : ℕ} {st : Words} {d : Expr} {m : Made} (kind gain : ℕ) (u : Expr) → lo ≤ x → x < r
    → Did F G L R a lo x d st m → (eqb kind 5 ≡ true → Only lo r gain) → (eqb kind 6 ≡ true → Only lo r gain)
    → one_status kind (status_of d a) ≡ status_of u a
    → cond (eqb kind 7) (pushed (status_of d a) (notices_of d a) gain) (notices_of d a) ≡ notices_of u a
    → ((M : ℕ) → Agree lo r m.after.counted M → upto M (suc r) ≡ upto M lo + lines_of u a)
    → (status_of u a ≡ Waiting
    → Plays F G L R (one_active kind (status_of d a) gain lo r m.after.active) (one_going kind (status_of d a) lo r m.after.going) lo r (remainder u a))
    → Did F G L R a lo r u st (one_end kind gain lo r m)
unfolding one_end
one_did {a = a} {lo = lo} {r = r} {st = st} {d = d} {m = m} kind gain u within below g o o' i j lines plays =
    let s = status_of d a in
    rw g.status
    (record {
      status = i;
      sent = rw g.sent (one_sends kind s gain st.notices (notices_of d a) ∙ ap (join st.notices) j);
      lines = lines;
      plays = plays;
      off = λ w. one_off kind s gain m.after.active (rw i w);
      beside =
          beside_on (beside_wider (omega arith) (omega arith) g.beside)
          (record {
            active = one_same_active kind s gain m.after.active (omega arith) o o';
            going = one_same_going kind s lo r m.after.going;
            counted = same_self;
          });
    })

-- ---- not, notify and repeat

module _ {F G : List ℕ} {L R T a A lo x : ℕ} {st : Words} {d : Expr} {m : Made} (before : Ready F L R T a A lo (suc x) st)
    (p : bit A (suc x) ≡ true) (within : lo ≤ x) (g : Did F G L R a lo x d st m) where
  at : At R A (suc x) m.after
  at = at_behind (omega arith) (omega arith) before g.beside

  lines : (M : ℕ) → Agree lo (suc x) m.after.counted M → upto M (suc (suc x)) ≡ upto M lo + (lines_of d a + 1)
  lines M k =
      counts M lo (suc x) (lines_of d a) (k.at (suc x) (omega arith) (omega arith) ∙ at.counted ∙ p)
      (g.lines M (agree_within (omega arith) (omega arith) k))

  pub not_did : (gain : ℕ) → One F L 3 lo x → Did F G L R a lo (suc x) (Not d) st (one_end 3 gain lo (suc x) m)
  unfolding one_status status_of notices_of lines_of remainder
  not_did gain own =
      one_did 3 gain (Not d) within (omega arith) g (λ i. absurd (false≢true i)) (λ i. absurd (false≢true i)) refl refl lines
      (λ w. not_left (remainder d a) gain (at.play ∙ p) own (status_of d a) w g.plays)

  pub notify_did : (N : ℕ) → One F L 7 lo x → gain_at G (suc x) ≡ N
      → Did F G L R a lo (suc x) (Notify d N) st (one_end 7 (gain_at G (suc x)) lo (suc x) m)
  unfolding one_status status_of notices_of lines_of remainder
  notify_did N own i =
      one_did 7 (gain_at G (suc x)) (Notify d N) within (omega arith) g (λ j. absurd (false≢true j)) (λ j. absurd (false≢true j)) refl (rw i refl) lines
      (λ w. notify_left (remainder d a) (gain_at G (suc x)) (at.play ∙ p) own i (status_of d a) w g.plays)

  -- a repeat that goes on
  pub again_did : {e : Expr} → One F L 6 lo x → bit R (suc x) ≡ true → Plays F G L R (gain_at G (suc x)) 0 lo x e → Only lo x (gain_at G (suc x))
      → Did F G L R a lo (suc x) (Then d (Repeat e)) st (one_end 6 (gain_at G (suc x)) lo (suc x) m)
  unfolding one_status status_of notices_of lines_of remainder
  again_did {e} own i n o =
      one_did 6 (gain_at G (suc x)) (Then d (Repeat e)) within (omega arith) g (λ j. absurd (false≢true j)) (λ j. only_wider (omega arith) (omega arith) o)
      refl refl lines
      (λ w. repeat_left (remainder d a) (at.play ∙ p) (at.goes ∙ rw (p, i) refl) own i n o (status_of d a) w g.plays g.off)

-- a repeat that starts and a body before it do alike
pub repeat_did : {F G : List ℕ} {L R a lo r : ℕ} {e : Expr} {st : Words} {m : Made} → Did F G L R a lo r (Then e (Repeat e)) st m
    → Did F G L R a lo r (Repeat e) st m
unfolding status_of notices_of lines_of remainder
repeat_did g = record { status = g.status; sent = g.sent; lines = g.lines; plays = g.plays; off = g.off; beside = g.beside }
