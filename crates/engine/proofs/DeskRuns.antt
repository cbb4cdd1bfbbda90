-- A desk that is fed event by event and a whole feed that is run give the same notices and statuses, and the desk gives the lines too.
use Prim.Native.Nat.{ℕ}
use mathlib.Core.Path.{◌≡◌, refl, sym, ap, ap₂, ◌∙◌}
use mathlib.Core.List.{List, [], ◌∷◌, ◌++◌, map}
use lib.Seq.{sets}
use Rattle.std.specs.Prelude.{Ok}
use Rattle.par.specs.declared.Answer.{Answer}
use Rattle.par.specs.Expr.{Expr}
use Rattle.par.specs.Feed.{answers, after, Bytes}
use Rattle.files.specs.Rule.{rule, rule_number}
use Rattle.engine.specs.declared.Desk.{Desk}
use Rattle.engine.specs.Feed.{answer_bytes, ran_number, Fed}
use Rattle.engine.specs.Mirror.Desk.{fresh_desk, opened_of, stepped_of}
use Rattle.engine.specs.History.{Call.stepping, Back, Back.replied, desks_back, back_bytes}
use Rattle.engine.proofs.Runs.{ran_accepts}
use Rattle.engine.proofs.Sitting.{Sitting, fresh_sits, after_more, step_sits, step_answers}

-- what comes back of a step that gives this answer
abbrev pub replies : List Answer → List Back
replies rs = map (λ r. replied (Ok r)) rs

steps_through : (events : List ℕ) (d : Desk) (x : Expr) (feed : List ℕ) → Sitting d x feed
    → desks_back d (map stepping events) ≡ replies (answers (after x feed) events)
unfolding desks_back answers
steps_through [] d x feed s = refl
steps_through (a ∷ events) d x feed s =
    ap₂ (λ b bs. b ∷ bs) (ap replied (step_answers d x feed s a))
    (steps_through events (stepped_of d a).desk x (feed ++ (a ∷ [])) (step_sits d x feed s a) ∙ rw (after_more x feed a))

backs_bytes : (rs : List Answer) → back_bytes (replies rs) ≡ answer_bytes rs
unfolding back_bytes answer_bytes
backs_bytes [] = refl
backs_bytes (r ∷ rs) = rw (backs_bytes rs)

module _ (s events : List ℕ) (bytes : Bytes s) (d : Desk) where
  -- whatever the desk was before
  pub desk_is_run : rule_number s ≡ 0 → desks_back (opened_of d s).desk (map stepping events) ≡ replies (answers (rule s) events)
  unfolding opened_of after
  desk_is_run e = rw e (steps_through events (fresh_desk s) (rule s) [] (fresh_sits s bytes e))

  -- so the bytes that a run writes are the records of what the desk replied
  pub run_is_desk : {place : ℕ} {buffer buffer' : List ℕ} {number written : ℕ} → Fed s events place buffer number written buffer' → number ≡ 0
      → buffer' ≡ sets buffer place (back_bytes (desks_back (opened_of d s).desk (map stepping events)))
  run_is_desk {place} {buffer} fed e =
      let z : ran_number s events place buffer ≡ 0 = sym fed.number_is ∙ e in
      fed.bytes ∙ rw (z, desk_is_run (ran_accepts s events place buffer fed e), backs_bytes (answers (rule s) events))
