-- `alike::shown` meets its contract.
use Rattle.std.proofs.Common.{ap, ◌∙◌}
use Rattle.alike.specs.Told.{in_pairs}
use Rattle.alike.proofs.Tails.{shown_pairs, shown_expressions}
use Rattle.alike.proofs.shown.Goals as goal

pub returns-in-Expressions : goal.returns-in-Expressions
returns-in-Expressions c =
    c.tail.ensures ∙ shown_expressions c.args.expressions.now c.args.pairs.now c.verdict_of-judged.ensures (ap in_pairs c.in-Expressions.is)

pub returns-in-Pairs : goal.returns-in-Pairs
returns-in-Pairs c =
    c.tail-in-Pairs.ensures ∙ shown_pairs c.args.expressions.now c.args.pairs.now c.verdict_of-judged.ensures (ap in_pairs c.in-Pairs.is)
