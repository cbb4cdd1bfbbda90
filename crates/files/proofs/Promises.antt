-- What this crate promises beside its contracts, each theorem whole, with the file that proves it cited. Assumes nothing: there is no axiom in the crate.
-- What a number stands for is a record of specs/Says.antt, named after a line of document 01's table.
use Prim.Native.Nat.{ℕ, ◌<◌, ◌≤◌}
use mathlib.Core.Path.{◌≡◌}
use mathlib.Core.Logic.{◌≢◌, ◌⊎◌, ◌↔◌}
use mathlib.Core.List.{List, [], ◌∷◌}
use lib.ListN.{length, get_or}
use Rattle.par.specs.declared.Node.{Node}
use Rattle.par.specs.Expr.{size}
use Rattle.par.specs.Expr.{Expr.event, Expr.then, Expr.repeat, Expr.notify, Expr.try}
use Rattle.par.specs.Records.{expr, File}
use Rattle.par.specs.Throughout.{Writable}
use Rattle.records.specs.declared.Contents.TheVariants.{Expressions, Pairs}
use Rattle.records.specs.Fields.{word_at}
use Rattle.records.specs.Walk.{Found, found}
use Rattle.records.specs.Says.{Says}
use Rattle.files.specs.Reading.{ExpressionBody, PairBody, expression_body, pair_body, reading, reading_pairs}
use Rattle.files.specs.Says.{Accepted, TooMany, NoHeader, CutShort, NotListed, WrongLength, NotEarlier, SameAgain, NotThere}
use Rattle.files.specs.Rule.{node_in, expr_of, rule, capped_size, rule_number}
use Rattle.files.specs.Swap.{swap_bytes}
use Rattle.files.proofs.Bodies
use Rattle.files.proofs.Readings
use Rattle.files.proofs.Accepted as accepted
use Rattle.files.proofs.RuleNumbers
use Rattle.files.proofs.Swap

-- ---- Every record's body gets one number, and the functions compute it

pub expression_body_lem : (s : List ℕ) (pos : ℕ) (ps : List ℕ) → ExpressionBody s pos ps (expression_body s pos ps)
expression_body_lem = Bodies.expression_body_lem

pub expression_body_one : (s : List ℕ) (pos : ℕ) (ps : List ℕ) (n m : ℕ) → ExpressionBody s pos ps n → ExpressionBody s pos ps m → n ≡ m
expression_body_one s pos ps n m = Bodies.expression_body_one s pos ps

pub pair_body_lem : (s : List ℕ) (n pos : ℕ) (ps : List ℕ) → PairBody s n pos ps (pair_body s n pos)
pair_body_lem = Bodies.pair_body_lem

pub pair_body_one : (s : List ℕ) (n pos : ℕ) (ps : List ℕ) (k m : ℕ) → PairBody s n pos ps k → PairBody s n pos ps m → k ≡ m
pair_body_one s n pos ps k m = Bodies.pair_body_one s n pos ps

-- ---- Every file says one thing, by document 01's tests in their order, and reading finds it

pub reading_says : (s : List ℕ) → Says s Expressions (ExpressionBody s) (reading s)
reading_says = Readings.reading_says

pub reading_one : (s : List ℕ) (f : Found) → Says s Expressions (ExpressionBody s) f → f ≡ reading s
reading_one = Readings.reading_one

pub reading_within : (s : List ℕ) → ((reading s).place ≤ length s) × (length (reading s).places ≤ 1024)
reading_within = Readings.reading_within

pub reading_pairs_says : (s : List ℕ) (n : ℕ) → Says s Pairs (PairBody s n) (reading_pairs s n)
reading_pairs_says = Readings.reading_pairs_says

pub reading_pairs_one : (s : List ℕ) (n : ℕ) (f : Found) → Says s Pairs (PairBody s n) f → f ≡ reading_pairs s n
reading_pairs_one = Readings.reading_pairs_one

pub reading_pairs_within : (s : List ℕ) (n : ℕ) → ((reading_pairs s n).place ≤ length s) × (length (reading_pairs s n).places ≤ 256)
reading_pairs_within = Readings.reading_pairs_within

-- ---- The numbers of an expression file, each exactly where document 01's table gives it

pub reading_number : (s : List ℕ) → (reading s).number ≤ 7
reading_number = Readings.reading_number

pub number_0 : (s : List ℕ) → ((reading s).number ≡ 0) ↔ Accepted s Expressions (ExpressionBody s)
number_0 = Readings.number_0

pub number_1 : (s : List ℕ) → ((reading s).number ≡ 1) ↔ (length s ≡ 0)
number_1 = Readings.number_1

pub number_2 : (s : List ℕ) → ((reading s).number ≡ 2) ↔ (NoHeader s Expressions (ExpressionBody s) ⊎ CutShort s Expressions (ExpressionBody s))
number_2 = Readings.number_2

pub number_3 : (s : List ℕ) → ((reading s).number ≡ 3) ↔ NotListed s Expressions (ExpressionBody s)
number_3 = Readings.number_3

pub number_4 : (s : List ℕ) → ((reading s).number ≡ 4) ↔ WrongLength s Expressions (ExpressionBody s)
number_4 = Readings.number_4

pub number_5 : (s : List ℕ) → ((reading s).number ≡ 5) ↔ NotEarlier s
number_5 = Readings.number_5

pub number_6 : (s : List ℕ) → ((reading s).number ≡ 6) ↔ SameAgain s
number_6 = Readings.number_6

pub number_7 : (s : List ℕ) → ((reading s).number ≡ 7) ↔ TooMany s Expressions (ExpressionBody s)
number_7 = Readings.number_7

-- ---- The numbers of a pair file, over an expression file of n records

pub reading_pairs_number : (s : List ℕ) (n : ℕ)
    → ((reading_pairs s n).number ≤ 4) ⊎ (((reading_pairs s n).number ≡ 7) ⊎ ((reading_pairs s n).number ≡ 14))
reading_pairs_number = Readings.reading_pairs_number

pub pairs_number_0 : (s : List ℕ) (n : ℕ) → ((reading_pairs s n).number ≡ 0) ↔ Accepted s Pairs (PairBody s n)
pairs_number_0 = Readings.pairs_number_0

pub pairs_number_1 : (s : List ℕ) (n : ℕ) → ((reading_pairs s n).number ≡ 1) ↔ (length s ≡ 0)
pairs_number_1 = Readings.pairs_number_1

pub pairs_number_2 : (s : List ℕ) (n : ℕ)
    → ((reading_pairs s n).number ≡ 2) ↔ (NoHeader s Pairs (PairBody s n) ⊎ CutShort s Pairs (PairBody s n))
pairs_number_2 = Readings.pairs_number_2

pub pairs_number_3 : (s : List ℕ) (n : ℕ) → ((reading_pairs s n).number ≡ 3) ↔ NotListed s Pairs (PairBody s n)
pairs_number_3 = Readings.pairs_number_3

pub pairs_number_4 : (s : List ℕ) (n : ℕ) → ((reading_pairs s n).number ≡ 4) ↔ WrongLength s Pairs (PairBody s n)
pairs_number_4 = Readings.pairs_number_4

pub pairs_number_7 : (s : List ℕ) (n : ℕ) → ((reading_pairs s n).number ≡ 7) ↔ TooMany s Pairs (PairBody s n)
pairs_number_7 = Readings.pairs_number_7

pub pairs_number_14 : (s : List ℕ) (n : ℕ) → ((reading_pairs s n).number ≡ 14) ↔ NotThere s n
pairs_number_14 = Readings.pairs_number_14

-- ---- The records read, of a refused file too: each names earlier ones only, no two are equal, and there are at most 1,024

pub read_file : (s : List ℕ) → File (length (reading s).places) (node_in s (reading s).places)
read_file = accepted.read_file

pub few : (s : List ℕ) → length (reading s).places ≤ 1024
few = accepted.few

-- An accepted file has a record.
pub accepted_file : (s : List ℕ) → (reading s).number ≡ 0 → File (length (reading s).places) (node_in s (reading s).places)
accepted_file = accepted.accepted_file

pub accepted_some : (s : List ℕ) → (reading s).number ≡ 0 → 1 ≤ length (reading s).places
accepted_some = accepted.accepted_some

-- In a file of bytes every event is a byte, and every notice set fits 16 bits.
pub accepted_range : (s : List ℕ) → ((i : ℕ) → get_or s i 0 < 256) → (r : ℕ) → r < length (reading s).places → Writable 16 (expr_of s r)
accepted_range = accepted.accepted_range

-- ---- An accepted pair file has 1 to 256 pairs, and both numbers of each are there

pub accepted_pairs : (s : List ℕ) (n : ℕ) → (reading_pairs s n).number ≡ 0
    → (1 ≤ length (reading_pairs s n).places) × (length (reading_pairs s n).places ≤ 256)
    × ((i : ℕ) → i < length (reading_pairs s n).places
    → (word_at s (get_or (reading_pairs s n).places i 0) 4 < n) × (word_at s (get_or (reading_pairs s n).places i 0) 6 < n))
accepted_pairs = accepted.accepted_pairs

-- ---- A rule file is opened with the file's number, then 8 exactly where the rule's size is above 64, which the capped size decides

pub rule_number_lem : (s : List ℕ) → rule_number s ≤ 8
rule_number_lem = RuleNumbers.rule_number_lem

pub rule_number_0 : (s : List ℕ) → (rule_number s ≡ 0) ↔ (((reading s).number ≡ 0) × (size (rule s) ≤ 64))
rule_number_0 = RuleNumbers.rule_number_0

pub rule_number_8 : (s : List ℕ) → (rule_number s ≡ 8) ↔ (((reading s).number ≡ 0) × (64 < size (rule s)))
rule_number_8 = RuleNumbers.rule_number_8

pub rule_number_refused : (s : List ℕ) → (reading s).number ≢ 0 → rule_number s ≡ (reading s).number
rule_number_refused = RuleNumbers.rule_number_refused

pub capped_over : (node : ℕ → Node) (r : ℕ) → (64 < capped_size node r) ↔ (64 < size (expr node r))
capped_over = RuleNumbers.capped_over

-- ---- The swap rule of document 01

pub swap_reading : reading swap_bytes ≡ found 0 58 (0 ∷ 5 ∷ 10 ∷ 15 ∷ 20 ∷ 28 ∷ 36 ∷ 44 ∷ 52 ∷ [])
swap_reading = Swap.swap_reading

pub swap_rule : rule swap_bytes ≡ repeat (then (event 0x6f) (try (notify (then (event 0x61) (event 0x63)) 3) (event 0x77)))
swap_rule = Swap.swap_rule

pub swap_size : size (rule swap_bytes) ≡ 9
swap_size = Swap.swap_size
