-- What the nodes in play say after a node's end: what remains of its expression, if that waits. A law for each construct, over the statuses of
-- its parts, s and t, what remains of them, d and e, and the words when they have been done, A in play and W going on.
use Prim.Native.Nat.{ℕ, suc, ◌-◌, ◌≤◌}
use mathlib.Core.Path.{◌≡◌, refl, sym, ◌∙◌}
use mathlib.Core.Bool.{Bool, true, false, cond, false≢true}
use mathlib.Core.List.{List}
use native.Mathlib.Omega.{arith}
use native.Mathlib.Numerals.{add-one}
use lib.Dec.{eqb}
use borrow.Author.Tests.{eqb-true}
use Rattle.par.specs.declared.Status.{Status}
use Rattle.par.specs.declared.Status.TheVariants.{Waiting, Success, Failure}
use Rattle.par.specs.Status.{opposite, higher, lower, tried}
use Rattle.par.specs.Expr.{Expr}
use Rattle.par.specs.Expr.{Expr.not as Not, Expr.repeat as Repeat, Expr.notify as Notify}
use Rattle.par.specs.Step.{kept, then_rest, either_rest, try_rest}
use Rattle.par.proofs.Order.{success_waiting, failure_waiting}
use Rattle.play.specs.Mirror.Masks.{bit, one, less, clear}
use Rattle.play.proofs.Compared.{Clear, Agree, Same, Only}
use Rattle.play.specs.Mirror.Nodes.{gain_at}
use Rattle.play.specs.Mirror.Down.{one_status, one_active, one_going, left_active, both_active, try_counted, both_counted}
use Rattle.play.proofs.Plays.{One, Two, Plays}
use Rattle.play.proofs.Plays.{Plays.not, Plays.notify, Plays.repeat_fresh, Plays.repeat_going}
use Rattle.play.proofs.Plays.{Plays.either_both, Plays.either_first, Plays.either_second, Plays.then_first, Plays.then_second}
use Rattle.play.proofs.Plays.{Plays.try_both, Plays.try_first}
use Rattle.play.proofs.Tests.{by_test}
use Rattle.play.proofs.Digits.{bit_none, less_self, less_other, with_left, with_right}
use Rattle.play.proofs.Spans.{clear_in}
use Rattle.play.proofs.Ranges.{same_self, same_on, same_clear, same_less, same_with, agree_self, clear_agree, clear_clear}
use Rattle.play.proofs.Frame.{goes_agree, frame}

abbrev pub done : Status → Bool
done Waiting = false
done Success = true
done Failure = true

-- ---- one part: what is left as it is, and what is off where the node has completed

pub one_same_active : (kind : ℕ) (s : Status) {lo r : ℕ} (g A : ℕ) → lo ≤ r → (eqb kind 5 ≡ true → Only lo r g)
    → (eqb kind 6 ≡ true → Only lo r g) → Same lo r A (one_active kind s g lo r A)
unfolding one_active
one_same_active kind Waiting g A h o o' = same_self
one_same_active kind Success {lo} {r} g A h o o' =
    by_test (Same lo r A) (eqb kind 5) (λ i. same_on (same_less A r h) (same_with (less A (one r)) g (o i)))
    (λ _. by_test (Same lo r A) (eqb kind 6) (λ i. same_with A g (o' i)) (λ _. same_clear A lo r))
one_same_active kind Failure {lo} {r} g A h o o' = same_clear A lo r

pub one_same_going : (kind : ℕ) (s : Status) (lo r W : ℕ) → Same lo r W (one_going kind s lo r W)
unfolding one_going
one_same_going kind Waiting lo r W = same_self
one_same_going kind Success lo r W = by_test (Same lo r W) (eqb kind 6) (λ _. same_clear W lo r) (λ _. same_self)
one_same_going kind Failure lo r W = same_self

pub one_off : (kind : ℕ) (s : Status) {lo r : ℕ} (g A : ℕ) → done (one_status kind s) ≡ true → Clear (one_active kind s g lo r A) lo r
unfolding one_status one_active
one_off kind Waiting {lo} {r} g A i =
    by_test (λ v. done v ≡ true → Clear A lo r) (eqb kind 3) (λ _ j. absurd (false≢true j))
    (λ _. by_test (λ v. done v ≡ true → Clear A lo r) (eqb kind 7) (λ _ j. absurd (false≢true j)) (λ _ j. absurd (false≢true j))) i
one_off kind Success {lo} {r} g A i =
    by_test (λ n. Clear n lo r) (eqb kind 5) (λ j. absurd (false≢true (rw (eqb-true kind 5 j) at i)))
    (λ _. by_test (λ n. Clear n lo r) (eqb kind 6) (λ j. absurd (false≢true (rw (eqb-true kind 6 j) at i))) (λ _. clear_clear A lo r))
one_off kind Failure {lo} {r} g A i = clear_clear A lo r

-- ---- two parts

pub both_off : (v s t : Status) (lo r A : ℕ) → done v ≡ true → Clear (both_active v s t lo r A) lo r
unfolding both_active
both_off Waiting s t lo r A i = absurd (false≢true i)
both_off Success s t lo r A i = clear_clear A lo r
both_off Failure s t lo r A i = clear_clear A lo r

pub left_same : (s t : Status) {lo : ℕ} (r A : ℕ) → lo ≤ r → Same lo r A (left_active s t r A)
unfolding left_active
left_same Waiting Waiting r A h = same_self
left_same Waiting Success r A h = same_less A r h
left_same Waiting Failure r A h = same_less A r h
left_same Success t r A h = same_less A r h
left_same Failure t r A h = same_less A r h

pub both_same : (v s t : Status) {lo : ℕ} (r A : ℕ) → lo ≤ r → Same lo r A (both_active v s t lo r A)
unfolding both_active
both_same Waiting s t r A h = left_same s t r A h
both_same Success s t {lo} r A h = same_clear A lo r
both_same Failure s t {lo} r A h = same_clear A lo r

-- the second part's range
pub sub_one : (y : ℕ) → suc y - 1 ≡ y
sub_one y = omega arith

pub try_counted_lem : (s : Status) (x y C : ℕ) → both_counted 8 s x (suc y) C ≡ cond (done s) (clear C (suc x) y) C
unfolding both_counted try_counted
try_counted_lem Waiting x y C = refl
try_counted_lem Success x y C = rw (add-one x, sub_one y) refl
try_counted_lem Failure x y C = rw (add-one x, sub_one y) refl

-- ---- what remains

-- the node itself leaves; its parts do not see it
besides : {lo r : ℕ} (A y : ℕ) → r ≤ y → Agree lo r A (less A (one (suc y)))
besides A y h = record { at = λ q l m. less_other A (suc y) q (λ (e : q ≡ suc y). omega arith) }

module _ {F G : List ℕ} {L R : ℕ} where
  module _ {A W lo x : ℕ} (d : Expr) (g : ℕ) (p : bit A (suc x) ≡ true) where
    pub not_left : One F L 3 lo x → (s : Status) → opposite s ≡ Waiting → (s ≡ Waiting → Plays F G L R A W lo x d)
        → Plays F G L R (one_active 3 s g lo (suc x) A) (one_going 3 s lo (suc x) W) lo (suc x) (kept s (Not d))
    unfolding one_active one_going
    not_left at Waiting w m = not at p (m refl)
    not_left at Success w m = absurd (failure_waiting w)
    not_left at Failure w m = absurd (success_waiting w)

    pub notify_left : {N : ℕ} → One F L 7 lo x → gain_at G (suc x) ≡ N → (s : Status) → s ≡ Waiting → (s ≡ Waiting → Plays F G L R A W lo x d)
        → Plays F G L R (one_active 7 s g lo (suc x) A) (one_going 7 s lo (suc x) W) lo (suc x) (kept s (Notify d N))
    unfolding one_active one_going
    notify_left at i Waiting w m = notify at p i (m refl)
    notify_left at i Success w m = absurd (success_waiting w)
    notify_left at i Failure w m = absurd (failure_waiting w)

  pub repeat_left : {A W lo x : ℕ} (d : Expr) {e : Expr} → bit A (suc x) ≡ true → bit W (suc x) ≡ true → One F L 6 lo x → bit R (suc x) ≡ true
      → Plays F G L R (gain_at G (suc x)) 0 lo x e → Only lo x (gain_at G (suc x)) → (s : Status) → lower s Waiting ≡ Waiting
      → (s ≡ Waiting → Plays F G L R A W lo x d) → (done s ≡ true → Clear A lo x)
      → Plays F G L R (one_active 6 s (gain_at G (suc x)) lo (suc x) A) (one_going 6 s lo (suc x) W) lo (suc x) (then_rest s d (Repeat e))
  unfolding one_active one_going
  repeat_left d p u at i g o Waiting w m c = repeat_going at i p u (m refl) g o
  repeat_left {A} {W} {lo} {x} d p u at i g o Success w m c =
      let N = gain_at G (suc x) in
      repeat_fresh at i (with_left A N (suc x) (o.above (suc x) (omega arith)) ∙ p) (clear_in W lo (suc x) (suc x) (omega arith) (omega arith))
      (frame (record { at = λ q h k. with_right A N q ((c refl).off q h k) })
      (record { at = λ q h k j. clear_in W lo (suc x) q h (omega arith) ∙ sym (bit_none q) }) g) g o
  repeat_left d p u at i g o Failure w m c = absurd (failure_waiting w)

  pub then_left : {A W lo x y : ℕ} (d : Expr) {e : Expr} → bit A (suc y) ≡ true → Two F L 5 lo x y → Clear A (suc x) y → Clear W (suc x) y
      → Plays F G L R (gain_at G (suc y)) 0 (suc x) y e → Only (suc x) y (gain_at G (suc y)) → (s : Status) → lower s Waiting ≡ Waiting
      → (s ≡ Waiting → Plays F G L R A W lo x d) → (done s ≡ true → Clear A lo x)
      → Plays F G L R (one_active 5 s (gain_at G (suc y)) lo (suc y) A) (one_going 5 s lo (suc y) W) lo (suc y) (then_rest s d e)
  unfolding one_active one_going
  then_left d p at k u g o Waiting w m c = then_first at p (m refl) k g o
  then_left {A} {W} {lo} {x} {y} d p at k u g o Success w m c =
      let N = gain_at G (suc y) in
      let B = less A (one (suc y)) in
      then_second at (with_left B N (suc y) (o.above (suc y) (omega arith)) ∙ less_self A (suc y))
      (record { off = λ q h l. with_left B N q (o.below q (omega arith)) ∙ less_other A (suc y) q (λ (i : q ≡ suc y). omega arith) ∙ (c refl).off q h l })
      (frame (record { at = λ q h l. with_right B N q (less_other A (suc y) q (λ (i : q ≡ suc y). omega arith) ∙ k.off q h l) })
      (record { at = λ q h l j. u.off q h l ∙ sym (bit_none q) }) g)
  then_left d p at k u g o Failure w m c = absurd (failure_waiting w)

  -- ---- of two parts

  module _ {A W lo x y : ℕ} (d e : Expr) (p : bit A (suc y) ≡ true) where
    pub either_left : Two F L 4 lo x y → (s t : Status) → higher s t ≡ Waiting → (s ≡ Waiting → Plays F G L R A W lo x d)
        → (t ≡ Waiting → Plays F G L R A W (suc x) y e) → (done s ≡ true → Clear A lo x) → (done t ≡ true → Clear A (suc x) y)
        → Plays F G L R (both_active (higher s t) s t lo (suc y) A) W lo (suc y) (either_rest s t d e)
    unfolding both_active left_active
    either_left at Waiting Waiting w m n c k = either_both at p (m refl) (n refl)
    either_left at Waiting Success w m n c k = absurd (success_waiting w)
    either_left at Waiting Failure w m n c k =
        either_first at (less_self A (suc y)) (frame (besides A y (omega arith)) (goes_agree agree_self) (m refl))
        (clear_agree (besides A y (omega arith)) (k refl))
    either_left at Success t w m n c k = absurd (success_waiting w)
    either_left at Failure Waiting w m n c k =
        either_second at (less_self A (suc y)) (clear_agree (besides A y (omega arith)) (c refl))
        (frame (besides A y (omega arith)) (goes_agree agree_self) (n refl))
    either_left at Failure Success w m n c k = absurd (success_waiting w)
    either_left at Failure Failure w m n c k = absurd (failure_waiting w)

    pub try_left : Two F L 8 lo x y → (s t : Status) → tried s t ≡ Waiting → (s ≡ Waiting → Plays F G L R A W lo x d)
        → (t ≡ Waiting → Plays F G L R A W (suc x) y e) → (done t ≡ true → Clear A (suc x) y)
        → Plays F G L R (both_active (tried s t) s t lo (suc y) A) W lo (suc y) (try_rest s t d e)
    unfolding both_active left_active
    try_left at Waiting Waiting w m n k = try_both at p (m refl) (n refl)
    try_left at Waiting Success w m n k = absurd (failure_waiting w)
    try_left at Waiting Failure w m n k =
        try_first at (less_self A (suc y)) (frame (besides A y (omega arith)) (goes_agree agree_self) (m refl))
        (clear_agree (besides A y (omega arith)) (k refl))
    try_left at Success t w m n k = absurd (success_waiting w)
    try_left at Failure t w m n k = absurd (failure_waiting w)
