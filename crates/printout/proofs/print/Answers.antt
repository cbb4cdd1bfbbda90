-- `printout::print` meets its contract, by outcome: 17, 2, the number of the file, the text of the rule.
use Prim.Native.Nat.{ℕ, ◌+◌, ◌-◌, ◌<◌}
use native.Mathlib.Omega.{arith}
use lib.ListN.{length, get_or, take, drop, length-take, length-drop}
use Rattle.par.specs.Feed.{answers}
use Rattle.files.specs.Rule.{rule}
use Rattle.printout.specs.Text.{rule_in}
use Rattle.printout.proofs.Lines.{answers_many}
use Rattle.printout.proofs.Texts.{text_large, text_short, text_cut, text_refused_in, fed_in, text_in}
use Rattle.printout.proofs.print.Goals as goal

pub returns-then-input-gt8192 : goal.returns-then-input-gt8192
returns-then-input-gt8192 c = rw (text_large c.args.input.now c.if-input-gt8192.true) (rw c.from.ensures at c.put_refusal.ensures)

pub returns-then-input-lt2 : goal.returns-then-input-lt2
returns-then-input-lt2 c = rw (text_short c.args.input.now c.if-input-gt8192.false c.if-input-lt2.true)
    (rw c.from-then-input-lt2.ensures at c.put_refusal-then-input-lt2.ensures)

pub returns-then-input-size : goal.returns-then-input-size
returns-then-input-size c =
    let cut = text_cut c.args.input.now c.if-input-gt8192.false c.if-input-lt2.false (omega
    (arith, c.if-input-size.true, c.part_at-size.ensures)) in
    rw cut (rw c.from-then-input-size.ensures at c.put_refusal-then-input-size.ensures)

pub returns-in-Err : goal.returns-in-Err
returns-in-Err c =
    rw (text_refused_in c.args.input.now c.part_at-size.ensures c.if-input-gt8192.false c.if-input-lt2.false c.if-input-size.false c.in-Err.refusal
    c.in-Err.ensures.refused) (rw c.from-in-Err.ensures at c.put_refusal-in-Err.ensures)

pub put_rule-requires : goal.put_rule-requires
put_rule-requires c = simp (length-take, length-drop) (omega (arith, c.if-input-gt8192.false))

pub returns-in-Ok : goal.returns-in-Ok
returns-in-Ok c = let small : (i : ℕ) → get_or c.args.input.now i 0 < 256 = λ i. omega (arith, c.type_inv.input i) in
    let is = text_in c.args.input.now c.part_at-size.ensures c.if-input-gt8192.false c.if-input-lt2.false c.if-input-size.false small c.in-Ok.ensures.ready
    c.in-Ok.ensures.refused in
    let fed = fed_in c.args.input.now c.part_at-size.ensures c.if-input-gt8192.false c.if-input-lt2.false c.if-input-size.false small c.in-Ok.ensures.ready
    c.in-Ok.ensures.refused in
    let n = length c.args.input.now - (2 + c.part_at-size.result) in
    let events = take n (drop (2 + c.part_at-size.result) c.args.input.now) in
    let rs = answers (rule (rule_in c.args.input.now)) events in
    rw is
    (rw c.rule.ensures.root at
    (c.put_rule.ensures rs (answers_many (rule (rule_in c.args.input.now)) events)
    (rw (c.rule.ensures.nodes, c.rule.ensures.gain, c.rule.ensures.leaves, c.rule.ensures.repeats, c.rule.ensures.root) fed)))
