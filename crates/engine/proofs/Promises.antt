-- What this crate promises beside its contracts, each theorem whole, with the file that proves it cited. Assumes nothing: there is no axiom in the crate.
-- Bytes are numbers below 256; events may be any numbers.
use Prim.Native.Nat.{ℕ, ◌+◌, ◌*◌, ◌^◌, ◌≤◌, ◌<◌}
use mathlib.Core.Path.{◌≡◌}
use mathlib.Core.Logic.{◌≢◌}
use mathlib.Core.List.{List, [], ◌∷◌, ◌++◌, map}
use lib.ListN.{length, take, drop}
use lib.Seq.{sets}
use Rattle.std.specs.Prelude.{Result, Ok, Err}
use Rattle.par.specs.Expr.{Expr, size}
use Rattle.par.specs.Feed.{answer, answers, after, Bytes}
use Rattle.par.proofs.Silence.{nothing}
use Rattle.par.specs.declared.Status.TheVariants.{Waiting}
use Rattle.records.specs.declared.refusal.Refusal.{Refusal}
use Rattle.records.specs.declared.refusal.Refusal.TheVariants.{NoRuleOpen}
use Rattle.records.specs.Refusals.{number}
use Rattle.files.specs.Rule.{rule, rule_number}
use Rattle.play.specs.Said.{remains}
use Rattle.engine.specs.declared.Desk.{Desk}
use Rattle.engine.specs.Reply.{said}
use Rattle.engine.specs.Feed.{answer_bytes, written, Fed}
use Rattle.engine.specs.History.{Call, Call.opening, Call.stepping, Back.numbered, Back.replied, BytesIn, Book.closed}
use Rattle.engine.specs.History.{desks_after, desks_back, back_bytes, books_after, books_back, ByTheBook}
use Rattle.engine.specs.Cost.{rule_size, WithinRule, NoneAccepted, LinesUpTo}
use Rattle.engine.specs.Mirror.Desk.{empty_desk, fresh_desk, opened_of, put, stepped_of}
use Rattle.engine.specs.Mirror.Feed.{fed_bytes}
use Rattle.engine.proofs.Feeds
use Rattle.engine.proofs.Runs
use Rattle.engine.proofs.Desks
use Rattle.engine.proofs.Sitting.{Sitting}
use Rattle.engine.proofs.Sitting
use Rattle.engine.proofs.Histories
use Rattle.engine.proofs.Costs
use Rattle.engine.proofs.DeskRuns.{replies}
use Rattle.engine.proofs.DeskRuns

-- ---- Running a whole feed writes what the figures answer, from the place on, and nothing else

pub rule_fed : (s : List ℕ) → Bytes s → rule_number s ≡ 0 → (events : List ℕ) → fed_bytes s events ≡ answer_bytes (answers (rule s) events)
rule_fed = Feeds.rule_fed

pub run_writes : (s events : List ℕ) (place : ℕ) (buffer : List ℕ) {number written : ℕ} {buffer' : List ℕ}
    → Fed s events place buffer number written buffer' → number ≡ 0
    → (written ≡ 7 * length events)
    × (buffer' ≡ take place buffer ++ answer_bytes (answers (rule s) events) ++ drop (place + 7 * length events) buffer)
run_writes = Runs.ran_writes

pub run_refused : (s events : List ℕ) (place : ℕ) (buffer : List ℕ) {number written : ℕ} {buffer' : List ℕ}
    → Fed s events place buffer number written buffer' → number ≢ 0
    → (written ≡ 0) × (buffer' ≡ buffer)
run_refused = Runs.ran_refused

pub run_number : (s events : List ℕ) (place : ℕ) (buffer : List ℕ) {number written : ℕ} {buffer' : List ℕ}
    → Fed s events place buffer number written buffer' → number ≤ 9
run_number = Runs.ran_number_lem

-- `run`'s contract is met by one outcome; those of the desk are equations, or of a kind of which one outcome alone has the number.
pub run_one : {s events : List ℕ} {place : ℕ} {buffer : List ℕ} {o o' : Result ℕ Refusal} {b b' : List ℕ}
    → Fed s events place buffer (number o) (written o) b → Fed s events place buffer (number o') (written o') b' → (o ≡ o') × (b ≡ b')
run_one = Runs.outcome_one

pub fed_one : {s events : List ℕ} {place : ℕ} {buffer : List ℕ} {number written number' written' : ℕ} {b b' : List ℕ}
    → Fed s events place buffer number written b → Fed s events place buffer number' written' b' → (number ≡ number') × (written ≡ written') × (b ≡ b')
fed_one = Runs.fed_one

-- ---- A desk, made empty and changed by any openings and steps, replies what the figures give for the rule that was accepted last, fresh, after the
-- events since; refused openings and steps on a closed desk leave no trace

pub history : (calls : List Call) → BytesIn calls → desks_back empty_desk calls ≡ books_back closed calls
history = Histories.history

-- So of a call alone, on whatever desk such calls made: what comes back, and what remains.
pub step_by_the_book : (d : Desk) (a : ℕ) → ByTheBook d (stepping a) (replied (stepped_of d a).reply) (stepped_of d a).desk
step_by_the_book = Histories.step_by_the_book

pub open_by_the_book : (d : Desk) (s : List ℕ) → ByTheBook d (opening s) (numbered (opened_of d s).number) (opened_of d s).desk
open_by_the_book = Histories.open_by_the_book

pub refused_opening : (d : Desk) (s : List ℕ) → rule_number s ≢ 0 → (opened_of d s).desk ≡ d
refused_opening = Desks.refused_opening

pub closed_step : (d : Desk) (a : ℕ) → d.is_open ≡ 0
    → (stepped_of d a ≡ record { desk = d; reply = Err NoRuleOpen })
    × (number (stepped_of d a).reply ≡ 15)
    × (said (stepped_of d a).reply ≡ record { notices = 0; lines = 0; status = Waiting })
closed_step = Desks.closed_says

-- No other step is refused.
pub open_step : (d : Desk) (a : ℕ) → d.is_open ≢ 0 → number (stepped_of d a).reply ≡ 0
open_step = Desks.open_step

-- A finished rule, with no node in play, stays open and silent.
pub finished_step : (d : Desk) (a : ℕ) → d.is_open ≢ 0 → d.active ≡ 0
    → stepped_of d a ≡ record { desk = put d 0 0; reply = Ok nothing }
finished_step = Desks.finished_step

-- ---- One rule on a desk, event by event

pub fresh_sits : (s : List ℕ) → Bytes s → rule_number s ≡ 0 → Sitting (fresh_desk s) (rule s) []
fresh_sits = Sitting.fresh_sits

pub step_sits : (d : Desk) (x : Expr) (feed : List ℕ) → Sitting d x feed → (a : ℕ) → Sitting (stepped_of d a).desk x (feed ++ (a ∷ []))
step_sits = Sitting.step_sits

pub step_answers : (d : Desk) (x : Expr) (feed : List ℕ) → Sitting d x feed → (a : ℕ)
    → (stepped_of d a).reply ≡ Ok (answer (after x feed) a)
step_answers = Sitting.step_answers

-- The two words fix what remains, and it is what the figures leave.
pub sitting_remains : (d : Desk) (x : Expr) (feed : List ℕ) → Sitting d x feed → remains d.nodes d.gain d.root d.active d.going ≡ after x feed
sitting_remains = Sitting.sitting_remains

-- ---- A desk that is fed event by event and a whole feed that is run give the same

pub desk_is_run : (s events : List ℕ) → Bytes s → (d : Desk) → rule_number s ≡ 0
    → desks_back (opened_of d s).desk (map stepping events) ≡ replies (answers (rule s) events)
desk_is_run = DeskRuns.desk_is_run

pub run_is_desk : (s events : List ℕ) → Bytes s → (d : Desk) {place : ℕ} {buffer buffer' : List ℕ} {number written : ℕ}
    → Fed s events place buffer number written buffer' → number ≡ 0 → buffer' ≡ sets buffer place (back_bytes (desks_back (opened_of d s).desk (map stepping events)))
run_is_desk = DeskRuns.run_is_desk

-- ---- No step grows dear: on a desk made empty and changed by any openings and steps, every reply has at most as many lines as the rule that was
-- accepted last has nodes

pub step_within : (d : Desk) (a : ℕ) → WithinRule d (said (stepped_of d a).reply).lines
step_within = Costs.step_within

-- `calls` is all that went before, and `later` accepts no other rule: whatever size the rule accepted last has, every later reply stays within it.
pub history_lines : (calls later : List Call) → BytesIn calls → BytesIn later → NoneAccepted later
    → LinesUpTo (rule_size (books_after closed calls)) (desks_back (desks_after empty_desk calls) later)
history_lines = Costs.history_lines

pub step_lines : (d : Desk) (x : Expr) (feed : List ℕ) → Sitting d x feed → (a : ℕ) → (said (stepped_of d a).reply).lines ≤ size x
step_lines = Sitting.step_lines

-- On any desk whatever, of words of 64 bits, it has at most 64.
pub reply_lines : (d : Desk) (a : ℕ) → d.active < 2 ^ 64 → (said (stepped_of d a).reply).lines ≤ 64
reply_lines = Desks.reply_lines
