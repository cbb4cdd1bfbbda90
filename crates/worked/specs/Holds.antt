-- When a row of the table is right: what the contracts of `engine` and `alike` let come back is what the row says, and nothing else.
use Rattle.std.specs.Prelude.{ℕ, ◌+◌, ◌*◌, ◌≤◌, ◌≡◌, Ok, List, [], ◌∷◌, ◌++◌, map, length, take, drop}
use Rattle.par.specs.declared.Answer.{Answer}
use Rattle.engine.specs.declared.Desk.{Desk}
use Rattle.engine.specs.Feed.{Fed}
use Rattle.engine.specs.History.{Call.opening, Call.stepping, Back.numbered, Back.replied, desks_back}
use Rattle.alike.specs.Verdict.{judged, shown_of}
use Rattle.worked.specs.Examples.{Judgement, Row, Row.run, Row.steps, Row.proposals}

infixr 60 ◌&◌
-- P of each entry of a list
pub data Every {A : Type 0} (P : A → Type 0) : List A → Type 0 where
  none : Every P []
  ◌&◌ : {x : A} {xs : List A} → P x → Every P xs → Every P (x ∷ xs)

-- by the contract of `run`, at every place of every buffer where there is room, other bytes staying
abbrev pub Writes : List ℕ → List ℕ → List ℕ → Type 0
Writes rule feed answers =
    (place : ℕ) (buffer : List ℕ) → place + 7 * length feed ≤ length buffer
    → (number written : ℕ) (buffer' : List ℕ) → Fed rule feed place buffer number written buffer'
    → (number ≡ 0) × (written ≡ 7 * length feed) × (buffer' ≡ take place buffer ++ answers ++ drop (place + 7 * length feed) buffer)

-- by the contracts of `open` and `step`, whatever the desk was before
abbrev pub Answers : List ℕ → List ℕ → List Answer → Type 0
Answers rule feed answers =
    (d : Desk) → desks_back d (opening rule ∷ map stepping feed) ≡ numbered 0 ∷ map (λ r. replied (Ok r)) answers

-- by the contracts of `verdict_of`, `judge` and `shown`
abbrev pub judgement : List ℕ → List ℕ → Judgement
judgement expressions pairs = record { pairs = pairs; verdict_is = judged expressions pairs; shown = shown_of expressions pairs }

abbrev pub Holds : Row → Type 0
Holds (run rule feed answers) = Writes rule feed answers
Holds (steps rule feed answers) = Answers rule feed answers
Holds (proposals expressions judgements) = map (λ j. judgement expressions j.pairs) judgements ≡ judgements
