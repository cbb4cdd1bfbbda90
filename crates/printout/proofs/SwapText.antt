-- The printer's worked example (document 01, "Worked examples"), by computation: the swap rule's file of 58 bytes, and the events oacoawc.
use Prim.Native.Nat.{ℕ}
use mathlib.Core.Path.{◌≡◌, ◌∙◌}
use mathlib.Core.List.{List, [], ◌∷◌, ◌++◌}
use native.Mathlib.Omega.{arith}
use Rattle.par.specs.Expr.{size, join}
use Rattle.par.specs.Step.{status, notices, remainder}
use Rattle.records.specs.Fields.{word_at}
use Rattle.files.specs.Rule.{rule_number}
use Rattle.files.specs.Swap.{swap_bytes}
use Rattle.files.proofs.Swap.{swap_reading, swap_rule}
use Rattle.printout.specs.Text.{lines, text}
use Rattle.printout.proofs.Texts.{text_rule}

-- 58 as two bytes, the file, and oacoawc
abbrev pub swap_input : List ℕ
swap_input = 0x3a ∷ 0x00 ∷ swap_bytes ++ (0x6f ∷ 0x61 ∷ 0x63 ∷ 0x6f ∷ 0x61 ∷ 0x77 ∷ 0x63 ∷ [])

--     rule 9
--     6f 0000 waiting
--     61 0000 waiting
--     63 0003 waiting
--     6f 0000 waiting
--     61 0000 waiting
--     77 0000 failure
--     63 0000 waiting
abbrev pub swap_printed : List ℕ
swap_printed =
    114 ∷ 117 ∷ 108 ∷ 101 ∷ 32 ∷ 57 ∷ 10
    ∷ 54 ∷ 102 ∷ 32 ∷ 48 ∷ 48 ∷ 48 ∷ 48 ∷ 32 ∷ 119 ∷ 97 ∷ 105 ∷ 116 ∷ 105 ∷ 110 ∷ 103 ∷ 10
    ∷ 54 ∷ 49 ∷ 32 ∷ 48 ∷ 48 ∷ 48 ∷ 48 ∷ 32 ∷ 119 ∷ 97 ∷ 105 ∷ 116 ∷ 105 ∷ 110 ∷ 103 ∷ 10
    ∷ 54 ∷ 51 ∷ 32 ∷ 48 ∷ 48 ∷ 48 ∷ 51 ∷ 32 ∷ 119 ∷ 97 ∷ 105 ∷ 116 ∷ 105 ∷ 110 ∷ 103 ∷ 10
    ∷ 54 ∷ 102 ∷ 32 ∷ 48 ∷ 48 ∷ 48 ∷ 48 ∷ 32 ∷ 119 ∷ 97 ∷ 105 ∷ 116 ∷ 105 ∷ 110 ∷ 103 ∷ 10
    ∷ 54 ∷ 49 ∷ 32 ∷ 48 ∷ 48 ∷ 48 ∷ 48 ∷ 32 ∷ 119 ∷ 97 ∷ 105 ∷ 116 ∷ 105 ∷ 110 ∷ 103 ∷ 10
    ∷ 55 ∷ 55 ∷ 32 ∷ 48 ∷ 48 ∷ 48 ∷ 48 ∷ 32 ∷ 102 ∷ 97 ∷ 105 ∷ 108 ∷ 117 ∷ 114 ∷ 101 ∷ 10
    ∷ 54 ∷ 51 ∷ 32 ∷ 48 ∷ 48 ∷ 48 ∷ 48 ∷ 32 ∷ 119 ∷ 97 ∷ 105 ∷ 116 ∷ 105 ∷ 110 ∷ 103 ∷ 10
    ∷ []

swap_runs : rule_number swap_bytes ≡ 0
unfolding rule_number size
swap_runs = rw (swap_reading, swap_rule)

pub swap_text : text swap_input ≡ swap_printed
unfolding word_at lines status notices remainder join size
swap_text = text_rule swap_input (omega arith) (omega arith) (omega arith) swap_runs ∙ rw swap_rule
