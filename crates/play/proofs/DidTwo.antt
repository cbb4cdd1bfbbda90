-- What one event does to a node with two parts, from what it did to those that are in play.
use Prim.Native.Nat.{ℕ, suc, ◌+◌, ◌≤◌, ◌<◌}
use mathlib.Core.Path.{◌≡◌, refl, sym, ◌∙◌}
use mathlib.Core.Bool.{Bool, true, false, cond, false≢true}
use mathlib.Core.List.{List}
use native.Mathlib.Omega.{arith}
use lib.Dec.{leb}
use borrow.Author.Tests.{leb-true, leb-false}
use Rattle.par.specs.declared.Status.{Status}
use Rattle.par.specs.declared.Status.TheVariants.{Waiting, Success, Failure}
use Rattle.par.specs.Expr.{Expr, join, Expr.either as Either, Expr.then as Then, Expr.try as Try}
use Rattle.par.specs.Step.{try_lines, status as status_of, notices as notices_of, lines as lines_of, remainder}
use Rattle.par.proofs.Sets.{join_assoc}
use Rattle.play.specs.Mirror.Masks.{bit, clear}
use Rattle.play.proofs.Compared.{upto, Clear, Agree, Same, Only}
use Rattle.play.specs.Mirror.Nodes.{gain_at}
use Rattle.play.specs.declared.ends.Words.{Words}
use Rattle.play.specs.Mirror.Down.{Made, one_status, one_end, both_status, both_counted, both_end}
use Rattle.play.proofs.Plays.{Two, Plays}
use Rattle.play.proofs.Counts.{upto_flat, upto_clear}
use Rattle.play.proofs.Ranges.{same_self, same_wider, same_clear, only_wider, agree_on, agree_within, agree_before, agree_behind}
use Rattle.play.proofs.Ranges.{clear_agree, clear_clear, clear_one, clear_join}
use Rattle.play.proofs.Frame.{goes_agree, frame}
use Rattle.play.proofs.Rests.{done, both_off, both_same, try_counted_lem, then_left, either_left, try_left}
use Rattle.play.proofs.Did.{Beside, Ready, Did, At, beside_on, beside_wider, at_behind, ready_within, counts}
use Rattle.play.proofs.DidOne.{one_did}

-- ---- one part is left: of the nodes lo .. r, those in play stand in lo' .. r'

module _ {F G : List ℕ} {L R T a A lo lo' r' r : ℕ} {st : Words} {e : Expr} {m : Made} (before : Ready F L R T a A lo r st) (h : lo ≤ lo')
    (some : lo' ≤ r') (k : r' ≤ r) (front : (q : ℕ) → lo ≤ q → q < lo' → bit A q ≡ false) (back : Clear A (suc r') r)
    (g : Did F G L R a lo' r' e st m) where
  alone_lines : (M : ℕ) → Agree lo r m.after.counted M → upto M (suc r) ≡ upto M lo + lines_of e a
  alone_lines M s =
      let low = upto_flat M lo lo' h
      (λ q i j. s.at q i (omega arith) ∙ g.beside.counted.below q j ∙ before.counted.at q i (omega arith) ∙ front q i j)
      in
      let own = g.lines M (agree_within h k s) in
      let high = upto_flat M (suc r') (suc r) (omega arith)
      (λ q i j. s.at q (omega arith) (omega arith) ∙ g.beside.counted.above q i ∙ before.counted.at q (omega arith) (omega arith)
      ∙ back.off q i (omega arith))
      in
      omega arith

  alone_did : (status_of e a ≡ Waiting → Plays F G L R m.after.active m.after.going lo r (remainder e a)) → Did F G L R a lo r e st m
  alone_did n =
      record {
        status = g.status;
        sent = g.sent;
        lines = alone_lines;
        plays = n;
        off = λ w. record { off = λ q i j. off w q i j (leb lo' q) refl (leb q r') refl };
        beside = beside_wider h k g.beside;
      }
    where
      off : done (status_of e a) ≡ true → (q : ℕ) → lo ≤ q → q ≤ r → (b : Bool) → leb lo' q ≡ b → (c : Bool) → leb q r' ≡ c
          → bit m.after.active q ≡ false
      off w q i j true s true t = (g.off w).off q (leb-true lo' q s) (leb-true q r' t)
      off w q i j true s false t =
          let l = leb-false q r' t in
          g.beside.active.above q l ∙ before.play.at q i j ∙ back.off q l j
      off w q i j false s c t =
          let l = leb-false lo' q s in
          g.beside.active.below q l ∙ before.play.at q i j ∙ front q i l

-- ---- the first of two parts

module _ {F G : List ℕ} {L R T a A lo x y : ℕ} {st : Words} {d : Expr} {m : Made} (before : Ready F L R T a A lo (suc y) st) (within : lo ≤ x)
    (apart : x < y) (c : Clear A (suc x) y) (g : Did F G L R a lo x d st m) where
  first_at_lem : At R A (suc y) m.after
  first_at_lem = at_behind (omega arith) (omega arith) before g.beside

  -- nothing of the second is in play
  first_clear : Clear m.after.active (suc x) y
  first_clear =
      clear_agree (agree_on (agree_within (omega arith) (omega arith) before.play) (agree_behind (omega arith) g.beside.active)) c

  first_still : Clear m.after.going (suc x) y
  first_still =
      record {
        off = λ q h k.
            g.beside.going.above q (omega arith) ∙ before.goes q (omega arith) (omega arith) ∙ rw (c.off q h k) refl;
      }

  pub then_did : {e : Expr} → bit A (suc y) ≡ true → Two F L 5 lo x y → Plays F G L R (gain_at G (suc y)) 0 (suc x) y e
      → Only (suc x) y (gain_at G (suc y)) → Did F G L R a lo (suc y) (Then d e) st (one_end 5 (gain_at G (suc y)) lo (suc y) m)
  unfolding one_status status_of notices_of lines_of remainder
  then_did {e} p own n o =
      one_did 5 (gain_at G (suc y)) (Then d e) within (omega arith) g (λ j. only_wider (omega arith) (omega arith) o) (λ j. absurd (false≢true j)) refl refl
      (λ M k. counts M lo (suc y) (lines_of d a) (k.at (suc y) (omega arith) (omega arith) ∙ first_at_lem.counted ∙ p)
      (alone_lines (ready_within (omega arith) (omega arith) before) (omega arith) within (omega arith) (λ q i j. absurd (omega arith)) c g M
      (agree_within (omega arith) (omega arith) k)))
      (λ w. then_left (remainder d a) (first_at_lem.play ∙ p) own first_clear first_still n o (status_of d a) w g.plays g.off)

  -- the node itself is out of play; `still` is how it then stands for its first part
  pub first_did : (bit m.after.active (suc y) ≡ false → Plays F G L R m.after.active m.after.going lo x (remainder d a)
      → Clear m.after.active (suc x) y → Plays F G L R m.after.active m.after.going lo (suc y) (remainder d a))
      → bit A (suc y) ≡ false → Did F G L R a lo (suc y) d st m
  first_did still p =
      alone_did before (omega arith) within (omega arith) (λ q i j. absurd (omega arith)) (clear_join c (clear_one p)) g
      (λ w. still (first_at_lem.play ∙ p) (g.plays w) first_clear)

-- ---- the second of two parts

module _ {F G : List ℕ} {L R T a A lo x y : ℕ} {st : Words} {e : Expr} {m : Made} (before : Ready F L R T a A lo (suc y) st) (within : lo ≤ x)
    (apart : x < y) (c : Clear A lo x) (p : bit A (suc y) ≡ false) (g : Did F G L R a (suc x) y e st m) where
  pub second_did : (bit m.after.active (suc y) ≡ false → Clear m.after.active lo x
      → Plays F G L R m.after.active m.after.going (suc x) y (remainder e a)
      → Plays F G L R m.after.active m.after.going lo (suc y) (remainder e a))
      → Did F G L R a lo (suc y) e st m
  second_did still =
      alone_did before (omega arith) apart (omega arith) (λ q i j. c.off q i (omega arith)) (clear_one p) g
      (λ w. still ((at_behind (omega arith) (omega arith) before g.beside).play ∙ p)
      (clear_agree (agree_on (agree_within (omega arith) (omega arith) before.play) (agree_before (omega arith) g.beside.active)) c) (g.plays w))

-- ---- both parts

module _ {F G : List ℕ} {L R T a A lo x y : ℕ} {st : Words} {d e : Expr} {m k : Made} (before : Ready F L R T a A lo (suc y) st) (within : lo ≤ x)
    (apart : x < y) (p : bit A (suc y) ≡ true) (g : Did F G L R a lo x d st m) (h : Did F G L R a (suc x) y e m.after k) where
  both_beside : Beside lo y st k.after
  both_beside = beside_on (beside_wider (omega arith) (omega arith) g.beside) (beside_wider (omega arith) (omega arith) h.beside)

  both_at : At R A (suc y) k.after
  both_at = at_behind (omega arith) (omega arith) before both_beside

  both_sent : k.after.notices ≡ join st.notices (join (notices_of d a) (notices_of e a))
  both_sent = h.sent ∙ rw g.sent (sym (join_assoc st.notices (notices_of d a) (notices_of e a)))

  -- the second part did not touch the first's
  both_plays : status_of d a ≡ Waiting → Plays F G L R k.after.active k.after.going lo x (remainder d a)
  both_plays w = frame (agree_before (omega arith) h.beside.active) (goes_agree (agree_before (omega arith) h.beside.going)) (g.plays w)

  both_clear : done (status_of d a) ≡ true → Clear k.after.active lo x
  both_clear w = clear_agree (agree_before (omega arith) h.beside.active) (g.off w)

  both_first : (M : ℕ) → Agree lo x k.after.counted M → upto M (suc x) ≡ upto M lo + lines_of d a
  both_first M s = g.lines M (agree_on (agree_before (omega arith) h.beside.counted) s)

  both_lines : (M : ℕ) → Agree lo (suc y) k.after.counted M → upto M (suc (suc y)) ≡ upto M lo + (lines_of d a + lines_of e a + 1)
  both_lines M s =
      let one = both_first M (agree_within (omega arith) (omega arith) s) in
      let two = h.lines M (agree_within (omega arith) (omega arith) s) in
      counts M lo (suc y) (lines_of d a + lines_of e a) (s.at (suc y) (omega arith) (omega arith) ∙ both_at.counted ∙ p) (omega arith)

  pub either_did : Two F L 4 lo x y → Did F G L R a lo (suc y) (Either d e) st (both_end 4 lo x (suc y) m.status k)
  unfolding both_end both_status both_counted status_of notices_of lines_of remainder
  either_did at =
      let s = status_of d a in
      let t = status_of e a in
      rw (g.status, h.status)
      (record {
        status = refl;
        sent = both_sent;
        lines = both_lines;
        plays = λ w. either_left (remainder d a) (remainder e a) (both_at.play ∙ p) at s t w both_plays h.plays both_clear h.off;
        off = both_off (both_status 4 s t) s t lo (suc y) k.after.active;
        beside =
            beside_on (beside_wider (omega arith) (omega arith) both_beside)
            (record { active = both_same (both_status 4 s t) s t (suc y) k.after.active (omega arith); going = same_self; counted = same_self });
      })

  -- a try whose first part completed leaves the second's lines out
  cut_lines : (M : ℕ) → Agree lo (suc y) (clear k.after.counted (suc x) y) M → upto M (suc (suc y)) ≡ upto M lo + (lines_of d a + 1)
  cut_lines M s =
      let C = k.after.counted in
      let one = both_first M (agree_on (agree_before (omega arith) (same_clear C (suc x) y)) (agree_within (omega arith) (omega arith) s)) in
      let cut : Clear M (suc x) y = clear_agree (agree_within (omega arith) (omega arith) s) (clear_clear C (suc x) y) in
      let flat = upto_clear (omega arith) cut in
      counts M lo (suc y) (lines_of d a)
      (s.at (suc y) (omega arith) (omega arith) ∙ (same_clear C (suc x) y).above (suc y) (omega arith) ∙ both_at.counted ∙ p) (omega arith)

  try_lines_lem : (s : Status) (M : ℕ) → Agree lo (suc y) (cond (done s) (clear k.after.counted (suc x) y) k.after.counted) M
      → upto M (suc (suc y)) ≡ upto M lo + try_lines s (lines_of d a) (lines_of e a)
  try_lines_lem Waiting M s = both_lines M s
  try_lines_lem Success M s = cut_lines M s
  try_lines_lem Failure M s = cut_lines M s

  try_same : (s : Status) → Same lo (suc y) k.after.counted (cond (done s) (clear k.after.counted (suc x) y) k.after.counted)
  try_same Waiting = same_self
  try_same Success = same_wider (omega arith) (omega arith) (same_clear k.after.counted (suc x) y)
  try_same Failure = same_wider (omega arith) (omega arith) (same_clear k.after.counted (suc x) y)

  pub try_did : Two F L 8 lo x y → Did F G L R a lo (suc y) (Try d e) st (both_end 8 lo x (suc y) m.status k)
  unfolding both_end both_status status_of notices_of lines_of remainder
  try_did at =
      let s = status_of d a in
      let t = status_of e a in
      rw (g.status, h.status, try_counted_lem s x y k.after.counted)
      (record {
        status = refl;
        sent = both_sent;
        lines = try_lines_lem s;
        plays = λ w. try_left (remainder d a) (remainder e a) (both_at.play ∙ p) at s t w both_plays h.plays h.off;
        off = both_off (both_status 8 s t) s t lo (suc y) k.after.active;
        beside =
            beside_on (beside_wider (omega arith) (omega arith) both_beside)
            (record { active = both_same (both_status 8 s t) s t (suc y) k.after.active (omega arith); going = same_self; counted = try_same s });
      })
