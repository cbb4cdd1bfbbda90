-- `printout::put_rule` meets its contract.
use Prim.Native.Nat.{◌+◌, ◌-◌, ◌*◌}
use mathlib.Core.Path.{◌≡◌}
use native.Mathlib.Omega.{arith}
use lib.ListN.{length}
use Rattle.printout.specs.Text.{decimal_length}
use Rattle.printout.proofs.Words.{decimal_few}
use Rattle.printout.proofs.Outputs.{printed_fits, printed_not}
use Rattle.printout.proofs.Texts.{rule_long, rule_records, rule_put}
use Rattle.printout.proofs.put_rule.Goals as goal

pub overflow_add-head : goal.overflow_add-head
overflow_add-head c = omega (arith, decimal_few (c.args.rule.now.root + 1), c.decimal_length-head.ensures)

pub overflow_add-n : goal.overflow_add-n
overflow_add-n c = omega (arith, decimal_few (c.args.rule.now.root + 1), c.decimal_length-head.ensures)

pub returns-then-output-n : goal.returns-then-output-n
returns-then-output-n c =
    let head : 6 + c.decimal_length-head.result ≡ 6 + decimal_length (c.args.rule.now.root + 1) = omega (arith, c.decimal_length-head.ensures) in
    λ rs many fed. printed_not (rule_long c.args.output.now c.args.rule.now.root c.args.events.now rs many head) c.if-output-n.true

pub returns : goal.returns
returns c = let n = length c.args.events.now in
    let head : 6 + c.decimal_length-head.result ≡ 6 + decimal_length (c.args.rule.now.root + 1) = omega (arith, c.decimal_length-head.ensures) in
    let part : 6 + c.decimal_length-head.result + 16 * n - (6 + c.decimal_length-head.result) ≡ 16 * n = omega arith in
    λ rs many fed.
    let records = rule_records c.args.output.now c.args.rule.now.root c.args.events.now rs many head c.put_word.ensures c.put_decimal.ensures
    c.if-output-n.false in
    let written = rule_put c.args.output.now c.args.rule.now.root c.args.events.now rs many head c.put_word.ensures c.put_decimal.ensures
    c.if-output-n.false in
    printed_fits (rule_long c.args.output.now c.args.rule.now.root c.args.events.now rs many head) c.if-output-n.false
    (rw (c.put_lines.ensures rs many (rw (c.feed.ensures.1, fed, part) records), c.feed.ensures.1, fed, part) written)
