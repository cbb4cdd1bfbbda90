-- P1 to P10 of document 01, "Worked examples", as one table: a row for each, with the bytes of its files and what comes back. The lines of P2
-- are as T-06 of document 02 counts them.
use Rattle.std.specs.Prelude.{ℕ, true, List, [], ◌∷◌, ◌++◌, length}
use Rattle.par.specs.declared.Answer.{Answer}
use Rattle.par.specs.declared.Status.{Status}
use Rattle.par.specs.declared.Status.TheVariants.{Waiting, Success, Failure}
use Rattle.par.specs.Status.{status_byte}
use Rattle.files.specs.Swap.{swap_bytes}
use Rattle.engine.specs.Feed.{answer_record}
use Rattle.alike.specs.Proposal.{Verdict, verdict}

-- ---- a row

-- a pair file, the verdict on it, and the part that is shown
pub record Judgement : Type 0 where
  pub pairs : List ℕ
  pub verdict_is : Verdict
  pub shown : List ℕ

pub data Row : Type 0 where
  -- a rule file, a feed, and the answer records that a run writes
  run : (rule feed answers : List ℕ) → Row
  -- a rule file, a feed, and what a desk answers to it step by step
  steps : (rule feed : List ℕ) (answers : List Answer) → Row
  -- an expression file, and the judgements of proposals over it
  proposals : (expressions : List ℕ) (judgements : List Judgement) → Row

-- ---- what comes back

-- the record of a notice set and a status
abbrev pub said : ℕ → Status → List ℕ
said notices status = answer_record notices (status_byte status)

-- a step gives its lines too
abbrev pub step : ℕ → Status → ℕ → Answer
step notices status lines = record { notices = notices; lines = lines; status = status }

-- 0, and the empty tail at the pair file's end
abbrev pub accepted : List ℕ → Judgement
accepted pairs = record { pairs = pairs; verdict_is = verdict 0 true (length pairs); shown = [] }

-- refused at the first pair, from which on the file is shown
abbrev pub refused : ℕ → List ℕ → Judgement
refused number pairs = record { pairs = pairs; verdict_is = verdict number true 0; shown = pairs }

-- ---- the records of a file: length, kind and body; x and y are numbers of records

abbrev pub silent : List ℕ
silent = 4 ∷ 0 ∷ 1 ∷ 0 ∷ []

abbrev pub event : ℕ → List ℕ
event e = 5 ∷ 0 ∷ 2 ∷ 0 ∷ e ∷ []

abbrev pub not : ℕ → List ℕ
not x = 6 ∷ 0 ∷ 3 ∷ 0 ∷ x ∷ 0 ∷ []

abbrev pub either : ℕ → ℕ → List ℕ
either x y = 8 ∷ 0 ∷ 4 ∷ 0 ∷ x ∷ 0 ∷ y ∷ 0 ∷ []

abbrev pub then : ℕ → ℕ → List ℕ
then x y = 8 ∷ 0 ∷ 5 ∷ 0 ∷ x ∷ 0 ∷ y ∷ 0 ∷ []

abbrev pub repeat : ℕ → List ℕ
repeat x = 6 ∷ 0 ∷ 6 ∷ 0 ∷ x ∷ 0 ∷ []

abbrev pub notify : ℕ → ℕ → List ℕ
notify x A = 8 ∷ 0 ∷ 7 ∷ 0 ∷ x ∷ 0 ∷ A ∷ 0 ∷ []

abbrev pub try : ℕ → ℕ → List ℕ
try x y = 8 ∷ 0 ∷ 8 ∷ 0 ∷ x ∷ 0 ∷ y ∷ 0 ∷ []

abbrev pub pair : ℕ → ℕ → List ℕ
pair x y = 8 ∷ 0 ∷ 16 ∷ 0 ∷ x ∷ 0 ∷ y ∷ 0 ∷ []

-- ---- the files; the swap rule's is in `files`

abbrev pub a : ℕ
a = 0x61

abbrev pub b : ℕ
b = 0x62

abbrev pub c : ℕ
c = 0x63

abbrev pub o : ℕ
o = 0x6f

abbrev pub w : ℕ
w = 0x77

-- the supplier's form: repeat (o then try (notify ((notify a, 1) then c), 2) unless w)
abbrev pub supplier_bytes : List ℕ
supplier_bytes =
    event o ++ event a ++ event c ++ event w ++ notify 1 1 ++ then 4 2 ++ notify 5 2 ++ try 6 3 ++ then 0 7 ++ repeat 8

-- try a unless a
abbrev pub try_bytes : List ℕ
try_bytes = event a ++ try 0 0

-- a or b, in both orders
abbrev pub either_bytes : List ℕ
either_bytes = event a ++ event b ++ either 0 1 ++ either 1 0

-- a over and over, and the same begun
abbrev pub repeat_bytes : List ℕ
repeat_bytes = event a ++ repeat 0 ++ then 0 1

-- ---- the table

abbrev pub P1 : Row
P1 =
    run swap_bytes (o ∷ a ∷ c ∷ o ∷ a ∷ w ∷ c ∷ [])
    (said 0 Waiting ++ said 0 Waiting ++ said 3 Waiting ++ said 0 Waiting ++ said 0 Waiting ++ said 0 Failure ++ said 0 Waiting)

abbrev pub P2 : Row
P2 = steps swap_bytes (o ∷ a ∷ c ∷ []) (step 0 Waiting 3 ∷ step 0 Waiting 6 ∷ step 3 Waiting 4 ∷ [])

abbrev pub P3 : Row
P3 = run supplier_bytes (o ∷ a ∷ w ∷ []) (said 0 Waiting ++ said 1 Waiting ++ said 0 Failure)

abbrev pub P4 : Row
P4 = run try_bytes (a ∷ []) (said 0 Success)

abbrev pub P5 : Row
P5 = proposals (either_bytes ++ silent) (accepted (pair 2 3) ∷ [])

abbrev pub P6 : Row
P6 = proposals either_bytes (refused 12 (pair 2 3) ∷ [])

abbrev pub P7 : Row
P7 = proposals repeat_bytes (accepted (pair 1 2) ∷ [])

abbrev pub P8 : Row
P8 = proposals (event a ++ notify 0 1 ++ notify 0 2) (refused 10 (pair 1 2) ∷ [])

abbrev pub P9 : Row
P9 = proposals (event a ++ not 0) (refused 11 (pair 0 1) ∷ [])

abbrev pub P10 : Row
P10 =
    proposals (repeat_bytes ++ then 0 2)
    (refused 13 (pair 2 3) ∷ accepted (pair 2 3 ++ pair 1 2) ∷ refused 13 (pair 2 3 ++ pair 2 1) ∷ [])

abbrev pub table : List Row
table = P1 ∷ P2 ∷ P3 ∷ P4 ∷ P5 ∷ P6 ∷ P7 ∷ P8 ∷ P9 ∷ P10 ∷ []
