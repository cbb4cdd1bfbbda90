-- What a reader must believe of a whole feed: the answers as the bytes of their records, and what running leaves in the buffer.
use Rattle.std.specs.Prelude.{ℕ, ◌+◌, ◌*◌, ◌/◌, ◌%◌, ◌≡◌, cond, Result, Ok, Err, List, [], ◌∷◌, ◌++◌, length, eqb, leb}
use Rattle.std.proofs.lemmas.List.Edits.{sets}
use Rattle.par.specs.declared.Answer.{Answer}
use Rattle.par.specs.Status.{status_byte}
use Rattle.par.specs.Feed.{answers}
use Rattle.records.specs.declared.refusal.Refusal.{Refusal}
use Rattle.files.specs.Rule.{rule, rule_number}

-- length 7, kind 32, the notice set, the status byte
abbrev pub answer_record : ℕ → ℕ → List ℕ
answer_record notices status = 7 ∷ 0 ∷ 32 ∷ 0 ∷ notices % 256 ∷ notices / 256 ∷ status ∷ []

-- a record for each answer
unfoldable pub answer_bytes : List Answer → List ℕ
answer_bytes [] = []
answer_bytes (r ∷ rs) = answer_record r.notices (status_byte r.status) ++ answer_bytes rs

-- file, 8, 9
unfoldable pub ran_number : List ℕ → List ℕ → ℕ → List ℕ → ℕ
ran_number s events place buffer =
    cond (eqb (rule_number s) 0) (cond (leb (place + 7 * length events) (length buffer)) 0 9) (rule_number s)

-- how many bytes a run that came to this wrote
abbrev pub written : Result ℕ Refusal → ℕ
written (Ok n) = n
written (Err e) = 0

-- the answers of the file's rule stand from the place on, and other bytes stay; refused, all do
pub record Fed (s events : List ℕ) (place : ℕ) (buffer : List ℕ) (number written : ℕ) (buffer' : List ℕ) : Type 0 where
  pub number_is : number ≡ ran_number s events place buffer
  pub written_is : written ≡ cond (eqb (ran_number s events place buffer) 0) (7 * length events) 0
  pub bytes : buffer' ≡ cond (eqb (ran_number s events place buffer) 0) (sets buffer place (answer_bytes (answers (rule s) events))) buffer
