-- Mirror. The lines of a feed, from the answers to its events.
use Rattle.std.specs.Prelude.{ℕ, ◌+◌, List, [], ◌∷◌, ◌++◌}
use Rattle.par.specs.declared.Answer.{Answer}
use Rattle.printout.specs.Text.{rule_word, decimal, line}

unfoldable pub lines_of : List ℕ → List Answer → List ℕ
lines_of [] rs = []
lines_of (a ∷ events) [] = []
lines_of (a ∷ events) (r ∷ rs) = line a r.notices r.status ++ lines_of events rs

-- "rule ", the size, and the lines
abbrev pub rule_text_of : ℕ → List ℕ → List Answer → List ℕ
rule_text_of root events rs = rule_word ++ (decimal (root + 1) ++ lines_of events rs)
