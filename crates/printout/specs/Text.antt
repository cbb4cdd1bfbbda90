-- What a reader must believe: the printer's text (document 01, "Printer"), as a list of bytes for every input.
use Rattle.std.specs.Prelude.{ℕ, ◌+◌, ◌-◌, ◌/◌, ◌%◌, cond, List, [], ◌∷◌, ◌++◌, length, take, drop, eqb, ltb}
use Rattle.par.specs.declared.Status.{Status}
use Rattle.par.specs.declared.Status.TheVariants.{Waiting, Success, Failure}
use Rattle.par.specs.Expr.{Expr, size}
use Rattle.par.specs.Step.{status, notices, remainder}
use Rattle.records.specs.Fields.{word_at}
use Rattle.files.specs.Rule.{rule, rule_number}

-- ---- words and numbers, in ASCII

abbrev pub status_word : Status → List ℕ
status_word Waiting = 119 ∷ 97 ∷ 105 ∷ 116 ∷ 105 ∷ 110 ∷ 103 ∷ []
status_word Success = 115 ∷ 117 ∷ 99 ∷ 99 ∷ 101 ∷ 115 ∷ 115 ∷ []
status_word Failure = 102 ∷ 97 ∷ 105 ∷ 108 ∷ 117 ∷ 114 ∷ 101 ∷ []

-- "rule " and "refused "
abbrev pub rule_word : List ℕ
rule_word = 114 ∷ 117 ∷ 108 ∷ 101 ∷ 32 ∷ []

abbrev pub refused_word : List ℕ
refused_word = 114 ∷ 101 ∷ 102 ∷ 117 ∷ 115 ∷ 101 ∷ 100 ∷ 32 ∷ []

-- 0 to 9, a to f
abbrev pub hex_digit : ℕ → ℕ
hex_digit n = cond (ltb n 10) (48 + n) (87 + n)

abbrev pub decimal_length : ℕ → ℕ
decimal_length n = cond (ltb n 10) 1 2

-- a number below 100, and a line feed
abbrev pub decimal : ℕ → List ℕ
decimal n = cond (ltb n 10) ((48 + n) ∷ 10 ∷ []) ((48 + n / 10) ∷ (48 + n % 10) ∷ 10 ∷ [])

-- ---- lines

-- the event in two digits, the notices in four, the status word, single spaces between
abbrev pub line : ℕ → ℕ → Status → List ℕ
line a n s =
    hex_digit (a / 16) ∷ hex_digit (a % 16) ∷ 32
    ∷ hex_digit (n / 4096) ∷ hex_digit (n / 256 % 16) ∷ hex_digit (n / 16 % 16) ∷ hex_digit (n % 16) ∷ 32 ∷ status_word s ++ (10 ∷ [])

unfoldable pub lines : Expr → List ℕ → List ℕ
lines x [] = []
lines x (a ∷ events) = line a (notices x a) (status x a) ++ lines (remainder x a) events

abbrev pub refused_text : ℕ → List ℕ
refused_text n = refused_word ++ decimal n

abbrev pub rule_text : Expr → List ℕ → List ℕ
rule_text x events = rule_word ++ (decimal (size x) ++ lines x events)

-- ---- the whole

-- the rule file, and the events behind it
abbrev pub rule_in : List ℕ → List ℕ
rule_in s = take (word_at s 0 0) (drop 2 s)

abbrev pub events_in : List ℕ → List ℕ
events_in s = drop (2 + word_at s 0 0) s

-- 17 comes first; an input shorter than it says is 2
unfoldable pub text : List ℕ → List ℕ
text s =
    cond (ltb 8192 (length s)) (refused_text 17)
    (cond (ltb (length s) 2) (refused_text 2)
    (cond (ltb (length s - 2) (word_at s 0 0)) (refused_text 2)
    (cond (eqb (rule_number (rule_in s)) 0) (rule_text (rule (rule_in s)) (events_in s)) (refused_text (rule_number (rule_in s))))))
