-- What `run` answers, by its outcome: the file is refused, there is no room, the feed is answered. No two outcomes meet its contract.
use Prim.Native.Nat.{ℕ, ◌+◌, ◌*◌, ◌≤◌}
use mathlib.Core.Path.{◌≡◌, refl, sym, ap, ◌∙◌}
use mathlib.Core.Bool.{true, false}
use mathlib.Core.Logic.{◌≢◌}
use mathlib.Core.List.{List, [], ◌∷◌, ◌++◌}
use native.Mathlib.Omega.{arith}
use lib.Dec.{eqb, leb}
use lib.ListN.{length, take, drop}
use lib.Seq.{sets, sets-eq}
use borrow.Author.Tests.{eqb-true, eqb-false, leb-true, ne_eqb}
use Rattle.par.specs.Expr.{Expr}
use Rattle.par.specs.Step.{remainder}
use Rattle.par.specs.Feed.{answers, Bytes}
use Rattle.std.specs.Prelude.{Result, Ok, Err}
use Rattle.records.specs.declared.refusal.Refusal.{Refusal}
use Rattle.records.specs.Refusals.{number}
use Rattle.records.proofs.Refusals.{refusal_one, refusal_some}
use Rattle.records.proofs.Tests.{cond_all}
use Rattle.files.specs.Rule.{rule, rule_number}
use Rattle.files.proofs.RuleNumbers.{rule_number_lem}
use Rattle.play.proofs.Tests.{by_test}
use Rattle.engine.specs.Feed.{answer_bytes, ran_number, written, Fed}
use Rattle.engine.specs.Mirror.Feed.{fed_bytes}
use Rattle.engine.proofs.Feeds.{rule_fed}

answers_long : (events : List ℕ) (x : Expr) → length (answer_bytes (answers x events)) ≡ 7 * length events
unfolding answer_bytes answers
answers_long [] x = refl
answers_long (a ∷ events) x = rw (answers_long events (remainder x a)) (omega arith)

-- ---- the code's outcomes

module _ (s events : List ℕ) (place : ℕ) (buffer : List ℕ) where
  -- refused with k, nothing is written
  refused : {k : ℕ} → ran_number s events place buffer ≡ k → k ≢ 0 → Fed s events place buffer k 0 buffer
  refused e h = record { number_is = sym e; written_is = rw (e, ne_eqb _ 0 h); bytes = rw (e, ne_eqb _ 0 h) }

  pub run_refused : {k : ℕ} → k ≡ rule_number s → k ≢ 0 → Fed s events place buffer k 0 buffer
  unfolding ran_number
  run_refused e h = refused (rw (← e, ne_eqb _ 0 h)) h

  module _ (accepts : rule_number s ≡ 0) where
    pub run_no_room : leb (place + 7 * length events) (length buffer) ≡ false → Fed s events place buffer 9 0 buffer
    unfolding ran_number
    run_no_room h = refused (rw (accepts, h)) (λ e. omega arith)

    module _ (room : leb (place + 7 * length events) (length buffer) ≡ true) where
      runs : ran_number s events place buffer ≡ 0
      unfolding ran_number
      runs = rw (accepts, room)

      pub run_answers : Bytes s → {buffer' : List ℕ} → buffer' ≡ sets buffer place (fed_bytes s events)
          → Fed s events place buffer 0 (7 * length events) buffer'
      run_answers bytes b = record { number_is = sym runs; written_is = rw runs; bytes = b ∙ rw (runs, rule_fed s bytes accepts events) }

-- ---- what a number tells

module _ (s events : List ℕ) (place : ℕ) (buffer : List ℕ) where
  accepted_runs : ran_number s events place buffer ≡ 0 → (rule_number s ≡ 0) × (place + 7 * length events ≤ length buffer)
  unfolding ran_number
  accepted_runs =
      by_test (λ k. k ≡ 0 → (rule_number s ≡ 0) × (place + 7 * length events ≤ length buffer)) (eqb (rule_number s) 0)
      (λ t. by_test (λ k. k ≡ 0 → (rule_number s ≡ 0) × (place + 7 * length events ≤ length buffer)) (leb (place + 7 * length events) (length buffer))
      (λ u _. (eqb-true (rule_number s) 0 t, leb-true _ _ u)) (λ _ e. absurd (omega arith)))
      (λ t e. absurd (eqb-false (rule_number s) 0 t e))

  ran_few : ran_number s events place buffer ≤ 9
  unfolding ran_number
  ran_few =
      cond_all (λ k. k ≤ 9) (eqb (rule_number s) 0) _ _
      (cond_all (λ k. k ≤ 9) (leb (place + 7 * length events) (length buffer)) 0 9 (omega arith) (omega arith))
      (omega (arith, rule_number_lem s))

  module _ {number written : ℕ} {buffer' : List ℕ} (fed : Fed s events place buffer number written buffer') where
    pub ran_number_lem : number ≤ 9
    ran_number_lem = rw fed.number_is ran_few

    pub ran_accepts : number ≡ 0 → rule_number s ≡ 0
    ran_accepts e = (accepted_runs (sym fed.number_is ∙ e)).0

    -- the answers stand from the place on, and other bytes stay
    pub ran_writes : number ≡ 0
        → (written ≡ 7 * length events)
        × (buffer' ≡ take place buffer ++ answer_bytes (answers (rule s) events) ++ drop (place + 7 * length events) buffer)
    ran_writes e =
        let runs = sym fed.number_is ∙ e in
        let long = answers_long events (rule s) in
        let room : place + length (answer_bytes (answers (rule s) events)) ≤ length buffer = rw long (accepted_runs runs).1 in
        (fed.written_is ∙ rw runs, fed.bytes ∙ rw runs (rw (sets-eq (answer_bytes (answers (rule s) events)) buffer place room, long)))

    -- refused, all bytes stay
    pub ran_refused : number ≢ 0 → (written ≡ 0) × (buffer' ≡ buffer)
    ran_refused h =
        let other : ran_number s events place buffer ≢ 0 = λ e. h (fed.number_is ∙ e) in
        (fed.written_is ∙ rw (ne_eqb _ 0 other), fed.bytes ∙ rw (ne_eqb _ 0 other))

-- ---- one outcome

pub fed_one : {s events : List ℕ} {place : ℕ} {buffer : List ℕ} {number written number' written' : ℕ} {b b' : List ℕ}
    → Fed s events place buffer number written b → Fed s events place buffer number' written' b' → (number ≡ number') × (written ≡ written') × (b ≡ b')
fed_one f g = (f.number_is ∙ sym g.number_is, f.written_is ∙ sym g.written_is, f.bytes ∙ sym g.bytes)

outcomes_one : (o o' : Result ℕ Refusal) → number o ≡ number o' → written o ≡ written o' → o ≡ o'
outcomes_one (Ok n) (Ok n') e i = ap Ok i
outcomes_one (Ok n) (Err r) e i = absurd (refusal_some r (sym e))
outcomes_one (Err r) (Ok n) e i = absurd (refusal_some r e)
outcomes_one (Err r) (Err r') e i = ap Err (refusal_one e)

pub outcome_one : {s events : List ℕ} {place : ℕ} {buffer : List ℕ} {o o' : Result ℕ Refusal} {b b' : List ℕ}
    → Fed s events place buffer (number o) (written o) b → Fed s events place buffer (number o') (written o') b' → (o ≡ o') × (b ≡ b')
outcome_one {o} {o'} f g = let one = fed_one f g in (outcomes_one o o' one.0 one.1, one.2)
