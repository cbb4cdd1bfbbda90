-- The verdict on two files: `judged` computes what Says says, nothing else is said, the number is at most 14, and 0 exactly where the
-- proposal is accepted. `told_one`, `first_one`: they
-- determine what the code answers.
use Prim.Native.Nat.{ℕ, zero, suc, ◌<◌, ◌≤◌}
use mathlib.Core.Path.{◌≡◌, refl, sym, ◌∙◌, ap}
use mathlib.Core.Logic.{◌≢◌, ◌⊎◌, inl, inr, ⊎_elim, ◌↔◌}
use mathlib.Core.List.{List, [], ◌∷◌}
use mathlib.Core.Bool.{true, false, true≢false}
use native.Mathlib.Omega.{arith}
use borrow.Author.Tests.{eqb-true, eqb-false, eq-eqb, ne_eqb}
use lib.Dec.{eqb}
use lib.ListN.{length, get_or, get_or-eq_default}
use Rattle.par.proofs.Records.{one_record}
use Rattle.records.proofs.Tests.{cond_case}
use Rattle.files.specs.Reading.{reading}
use Rattle.files.specs.Rule.{node_in, expr_of}
use Rattle.files.proofs.Readings.{reading_number, reading_pairs_number}
use Rattle.files.proofs.Accepted.{read_file}
use Rattle.records.specs.declared.Contents.{Contents}
use Rattle.records.specs.declared.Contents.TheVariants.{Expressions, Pairs}
use Rattle.records.proofs.Refusals.{refusal_one, refusal_some, outcome_one}
use Rattle.std.specs.Prelude.{Option, Some, None}
use Rattle.alike.specs.declared.Judged.{Judged}
use Rattle.alike.specs.declared.verdict.Fault.{Fault}
use Rattle.alike.specs.Outcome.{outcome_of}
use Rattle.alike.specs.Told.{in_pairs, told}
use Rattle.alike.specs.Proposal.{records, listing, pairs, left_of, right_of, Accepted, Faulty, Verdict, verdict, Says}
use Rattle.alike.specs.Proposal.{Says.expressions_at_fault, Says.pairs_at_fault, Says.pair_at_fault, Says.accepted}
use Rattle.alike.specs.Settled.{FirstAt, Settled}
use Rattle.alike.specs.Verdict.{Outcome, closing, judged}
use Rattle.alike.proofs.Faults.{fault_number}
use Rattle.alike.proofs.Settling.{first_settled, settled_one}

pub get_or_inside : (l : List ℕ) (i d e : ℕ) → i < length l → get_or l i d ≡ get_or l i e
get_or_inside [] i d e h = absurd (omega arith)
get_or_inside (a ∷ l) zero d e h = refl
get_or_inside (a ∷ l) (suc i) d e h = get_or_inside l i d e (omega arith)

-- equal expressions have equal record numbers
pub one_number : (es : List ℕ) (i j : ℕ) → i < records es → j < records es → expr_of es i ≡ expr_of es j → i ≡ j
unfolding expr_of
one_number es = one_record (records es) (node_in es (reading es).places) (read_file es)

module _ (es ps : List ℕ) where
  -- ---- `judged`, outcome by outcome

  pub judged_expressions : (reading es).number ≢ 0 → judged es ps ≡ verdict (reading es).number false (reading es).place
  unfolding judged
  judged_expressions h = simp (ne_eqb _ _ h)

  pub judged_pairs : (reading es).number ≡ 0 → (listing es ps).number ≢ 0 → judged es ps ≡ verdict (listing es ps).number true (listing es ps).place
  unfolding judged
  judged_pairs e h = simp (eq-eqb _ _ e, ne_eqb _ _ h)

  pub judged_closing : (reading es).number ≡ 0 → (listing es ps).number ≡ 0
      → judged es ps ≡ verdict (closing es ps).number true (get_or (listing es ps).places (closing es ps).pair (length ps))
  unfolding judged
  judged_closing e h = simp (eq-eqb _ _ e, eq-eqb _ _ h)

  -- ---- the closing conditions of all pairs on all events

  abbrev Final : ℕ → ℕ → Type 0
  Final = Settled (expr_of es) (records es) (left_of es ps) (right_of es ps) (pairs es ps) 256

  pub closing_settled : Final (closing es ps).number (closing es ps).pair
  unfolding closing
  closing_settled = first_settled (expr_of es) (records es) (left_of es ps) (right_of es ps) (pairs es ps)

  pub closing_one : {k p : ℕ} → Final k p → (k ≡ (closing es ps).number) × (p ≡ (closing es ps).pair)
  closing_one v = settled_one (one_number es) v closing_settled

  -- ---- what the verdict says

  abbrev shows : ℕ → ℕ → Verdict
  shows k p = verdict k true (get_or (listing es ps).places p (length ps))

  faulty : {k p : ℕ} → Final k p → FirstAt (expr_of es) (records es) (left_of es ps) (right_of es ps) (pairs es ps) 256 p k
      → Faulty es ps k (get_or (listing es ps).places p (length ps))
  faulty {p = p} v f =
      record {
        pair = p;
        inside = f.inside;
        event = f.event;
        byte = f.below;
        fault = f.fault;
        events_before = f.earlier;
        pairs_before = v.before;
        place_is = get_or_inside (listing es ps).places p (length ps) 0 f.inside;
      }

  module _ (r : (reading es).number ≡ 0) (l : (listing es ps).number ≡ 0) where
    closing_says : {k p : ℕ} → Final k p
        → ((k ≡ 0) × (p ≡ pairs es ps)) ⊎ FirstAt (expr_of es) (records es) (left_of es ps) (right_of es ps) (pairs es ps) 256 p k
        → Says es ps (shows k p)
    closing_says {k} {p} v (inl h) =
        rw (h.0, get_or-eq_default (listing es ps).places (length ps) {n = p} (omega (arith, h.1)))
        (accepted (record { expressions_read = r; pairs_read = l; closed = λ i a w. v.before i a (omega (arith, h.1)) }))
    closing_says v (inr f) = pair_at_fault r l (faulty v f)

  pub judged_says : Says es ps (judged es ps)
  unfolding judged
  judged_says =
      cond_case (Says es ps) (eqb (reading es).number 0) _ _
      (λ r. cond_case (Says es ps) (eqb (listing es ps).number 0) _ _
      (λ l. closing_says (eqb-true _ 0 r) (eqb-true _ 0 l) closing_settled closing_settled.here)
      (λ l. pairs_at_fault (eqb-true _ 0 r) (eqb-false _ 0 l)))
      (λ r. expressions_at_fault (eqb-false _ 0 r))

  -- ---- and nothing else is said

  final_faulty : {k place : ℕ} (f : Faulty es ps k place) → Final k f.pair
  final_faulty f =
      record {
        before = f.pairs_before;
        here = inr (record { inside = f.inside; event = f.event; below = f.byte; fault = f.fault; earlier = f.events_before });
      }

  final_accepted : Accepted es ps → Final 0 (pairs es ps)
  final_accepted a = record { before = λ i b. a.closed i b; here = inl (refl, refl) }

  shows_one : {k p : ℕ} → (reading es).number ≡ 0 → (listing es ps).number ≡ 0 → Final k p → shows k p ≡ judged es ps
  shows_one r l v = let e = closing_one v in rw (e.0, e.1) (sym (judged_closing r l))

  pub says_judged : {v : Verdict} → Says es ps v → v ≡ judged es ps
  says_judged (expressions_at_fault h) = sym (judged_expressions h)
  says_judged (pairs_at_fault r h) = sym (judged_pairs r h)
  says_judged (pair_at_fault {number} {place} r l f) =
      ap (λ p. verdict number true p) (f.place_is ∙ get_or_inside (listing es ps).places f.pair 0 (length ps) f.inside)
      ∙ shows_one r l (final_faulty f)
  says_judged (accepted a) =
      ap (λ p. verdict 0 true p) (sym (get_or-eq_default (listing es ps).places (length ps) {n = pairs es ps} (omega arith)))
      ∙ shows_one a.expressions_read a.pairs_read (final_accepted a)

  pub says_one : {v w : Verdict} → Says es ps v → Says es ps w → v ≡ w
  says_one s t = says_judged s ∙ sym (says_judged t)

  -- ---- the numbers

  listing_few : (listing es ps).number ≤ 14
  unfolding listing
  listing_few = ⊎_elim (λ h. omega arith) (⊎_elim (λ h. omega arith) (λ h. omega arith)) (reading_pairs_number ps (records es))

  says_few : {v : Verdict} → Says es ps v → v.number ≤ 14
  says_few (expressions_at_fault h) = omega (arith, reading_number es)
  says_few (pairs_at_fault r h) = listing_few
  says_few (pair_at_fault r l f) = omega (arith, (fault_number f.fault).1)
  says_few (accepted a) = omega arith

  pub judged_number : (judged es ps).number ≤ 14
  judged_number = says_few judged_says

  says_accepted : {v : Verdict} → Says es ps v → v.number ≡ 0 → Accepted es ps
  says_accepted (expressions_at_fault h) e = absurd (h e)
  says_accepted (pairs_at_fault r h) e = absurd (h e)
  says_accepted (pair_at_fault r l f) e = absurd (omega (arith, (fault_number f.fault).0))
  says_accepted (accepted a) e = a

  pub zero_exactly : ((judged es ps).number ≡ 0) ↔ Accepted es ps
  zero_exactly = (says_accepted judged_says, λ a. ap (λ v. v.number) (sym (says_judged (accepted a))))

-- ---- the code's answer by what it tells

contents_one : (a b : Contents) → in_pairs a ≡ in_pairs b → a ≡ b
contents_one Expressions Expressions e = refl
contents_one Expressions Pairs e = absurd (true≢false (sym e))
contents_one Pairs Expressions e = absurd (true≢false e)
contents_one Pairs Pairs e = refl

pub told_one : (j k : Judged) → told j ≡ told k → j ≡ k
told_one j k e =
    let outcome = outcome_one j.outcome k.outcome (ap (λ (v : Verdict). v.number) e) in
    let shown_in = contents_one j.shown_in k.shown_in (ap (λ (v : Verdict). v.in_pairs) e) in
    let place = ap (λ (v : Verdict). v.place) e in
    λ i. record { outcome = outcome i; shown_in = shown_in i; place = place i }

-- so does the first fault
pub first_one : (m : ℕ) (f g : Option Fault) → outcome_of f m ≡ outcome_of g m → f ≡ g
first_one m None None e = refl
first_one m None (Some g) e = absurd (refusal_some g.refusal (ap (λ (o : Outcome). o.number) (sym e)))
first_one m (Some f) None e = absurd (refusal_some f.refusal (ap (λ (o : Outcome). o.number) e))
first_one m (Some f) (Some g) e =
    let refusal = refusal_one (ap (λ (o : Outcome). o.number) e) in
    let pair = ap (λ (o : Outcome). o.pair) e in
    λ i. Some (record { refusal = refusal i; pair = pair i })
