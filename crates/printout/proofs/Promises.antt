-- What this crate promises beside its contracts, each theorem whole, with the file that proves it cited. Assumes nothing: there is no axiom in the crate.
use Prim.Native.Nat.{ℕ, ◌-◌, ◌<◌, ◌≤◌}
use mathlib.Core.Path.{◌≡◌, refl}
use mathlib.Core.Logic.{◌≢◌}
use mathlib.Core.List.{List, [], ◌∷◌, ◌++◌}
use lib.ListN.{length}
use lib.Seq.{sets}
use Rattle.par.specs.Expr.{Expr, size}
use Rattle.par.specs.Step.{status, notices, remainder}
use Rattle.records.specs.Fields.{word_at}
use Rattle.files.specs.Rule.{rule, rule_number}
use Rattle.printout.specs.Text.{rule_word, refused_word, decimal, line, lines, rule_in, events_in, text}
use Rattle.printout.specs.Printed.{PrintedAs}
use Rattle.printout.proofs.Outputs
use Rattle.printout.proofs.Texts
use Rattle.printout.proofs.SwapText.{swap_input, swap_printed}
use Rattle.printout.proofs.SwapText

-- ---- The text of an accepted input: "rule ", the size, and a line for each event with what the figures answer

pub text_of_rule : (s : List ℕ) → length s ≤ 8192 → 2 ≤ length s → word_at s 0 0 ≤ length s - 2 → rule_number (rule_in s) ≡ 0
    → text s ≡ rule_word ++ (decimal (size (rule (rule_in s))) ++ lines (rule (rule_in s)) (events_in s))
text_of_rule = Texts.text_rule

pub lines_none : (x : Expr) → lines x [] ≡ []
unfolding lines
lines_none x = refl

pub lines_event : (x : Expr) (a : ℕ) (events : List ℕ) → lines x (a ∷ events) ≡ line a (notices x a) (status x a) ++ lines (remainder x a) events
unfolding lines
lines_event x a events = refl

-- ---- A refusal is "refused " and the number: 17 comes first, an input shorter than it says is 2, then the file's number and 8

pub text_refused_17 : (s : List ℕ) → 8192 < length s → text s ≡ refused_word ++ decimal 17
text_refused_17 = Texts.text_large

pub text_refused_2 : (s : List ℕ) → length s ≤ 8192 → length s < 2 → text s ≡ refused_word ++ decimal 2
text_refused_2 = Texts.text_short

pub text_refused_2_cut : (s : List ℕ) → length s ≤ 8192 → 2 ≤ length s → length s - 2 < word_at s 0 0 → text s ≡ refused_word ++ decimal 2
text_refused_2_cut = Texts.text_cut

pub text_refused_file : (s : List ℕ) → length s ≤ 8192 → 2 ≤ length s → word_at s 0 0 ≤ length s - 2
    → rule_number (rule_in s) ≢ 0 → text s ≡ refused_word ++ decimal (rule_number (rule_in s))
text_refused_file = Texts.text_refused

-- ---- No text is longer than 131,048 bytes

pub text_fits : (s : List ℕ) → length (text s) ≤ 131048
text_fits = Texts.text_fits

-- So in an output of that many bytes it stands whole.
pub text_stands : (s : List ℕ) {output : List ℕ} {n : ℕ} {l : List ℕ} → PrintedAs (text s) output n l → 131048 ≤ length output
    → (n ≤ length l) × (l ≡ sets output 0 (text s))
text_stands = Texts.text_stands

-- ---- One outcome

pub printed_one : {t output : List ℕ} {n n' : ℕ} {l l' : List ℕ} → PrintedAs t output n l → PrintedAs t output n' l' → (n ≡ n') × (l ≡ l')
printed_one = Outputs.printed_one

-- ---- The worked example of document 01, byte for byte

pub swap_text : text swap_input ≡ swap_printed
swap_text = SwapText.swap_text
