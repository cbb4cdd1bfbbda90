-- What `open` and `step` promise, from the desk that they leave and what they give back.
use Prim.Native.Nat.{ℕ, ◌%◌}
use mathlib.Core.Path.{◌≡◌, refl, sym, ◌∙◌}
use mathlib.Core.Logic.{◌≢◌}
use mathlib.Core.List.{List}
use Rattle.std.specs.Prelude.{Result, Ok, Err}
use Rattle.par.specs.declared.Answer.{Answer}
use Rattle.records.specs.declared.refusal.Refusal.{Refusal}
use Rattle.records.specs.declared.refusal.Refusal.TheVariants.{NoRuleOpen}
use Rattle.files.specs.Rule.{rule_number}
use Rattle.play.specs.declared.Moved.{Moved as Played}
use Rattle.play.specs.Mirror.Step.{stepped}
use Rattle.engine.specs.declared.Desk.{Desk}
use Rattle.engine.specs.Reply.{said}
use Rattle.engine.specs.History.{Call.opening, Call.stepping, Back.numbered, Back.replied, ByTheBook}
use Rattle.engine.specs.Cost.{WithinRule}
use Rattle.engine.specs.Mirror.Desk.{fresh_desk, opened_of, answer_of, put, stepped_of}
use Rattle.engine.proofs.Desks.{refused_opening, accepted_opening, closed_step, goes_on}
use Rattle.engine.proofs.Histories.{open_by_the_book, step_by_the_book}
use Rattle.engine.proofs.Costs.{step_within}

module _ (d : Desk) (s : List ℕ) where
  abbrev Opens : ℕ → Desk → Type 0
  Opens n d' = (n ≡ (opened_of d s).number) × (d' ≡ (opened_of d s).desk) × ByTheBook d (opening s) (numbered n) d'

  opens : {n : ℕ} {d' : Desk} → n ≡ (opened_of d s).number → d' ≡ (opened_of d s).desk → Opens n d'
  opens e f = rw (e, f) (refl, refl, open_by_the_book d s)

  pub open_refused : {n : ℕ} → n ≡ rule_number s → n ≢ 0 → Opens n d
  unfolding opened_of
  open_refused e h = opens e (sym (refused_opening d s (λ i. h (e ∙ i))))

  pub open_accepted : {d' : Desk} → 0 ≡ rule_number s → d' ≡ fresh_desk s → Opens 0 d'
  unfolding opened_of
  open_accepted e f = opens e (f ∙ sym (accepted_opening d s (sym e)))

module _ (d : Desk) (a : ℕ) where
  abbrev Steps : Result Answer Refusal → Desk → Type 0
  Steps r d' =
      (r ≡ (stepped_of d a).reply) × (d' ≡ (stepped_of d a).desk) × ByTheBook d (stepping a) (replied r) d' × WithinRule d (said r).lines

  steps : {r : Result Answer Refusal} {d' : Desk} → r ≡ (stepped_of d a).reply → d' ≡ (stepped_of d a).desk → Steps r d'
  steps e f = rw (e, f) (refl, refl, step_by_the_book d a, step_within d a)

  pub step_closed : d.is_open ≡ 0 → Steps (Err NoRuleOpen) d
  step_closed e = let c = closed_step d a e in steps (rw c refl) (rw c refl)

  pub step_open : {m : Played} → d.is_open ≢ 0 → m ≡ stepped d.nodes d.gain d.leaves d.repeats (d.root % 64) a d.active
      → Steps (Ok (answer_of m)) (put d m.active m.going)
  step_open h e = let c = goes_on d a h in steps (rw (c, e) refl) (rw (c, e) refl)
