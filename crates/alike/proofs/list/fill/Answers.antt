-- `alike::list::fill` meets its contract: the entries before r are what the figures give.
use Rattle.std.proofs.Common.{arith, ap, ◌∙◌}
use Rattle.alike.specs.List.{part}
use Rattle.alike.proofs.Filling.{entry_stands, filled_more}
use Rattle.alike.proofs.list.fill.Goals as goal

pub loop-r-preserved : goal.loop-r-preserved
loop-r-preserved c =
    filled_more c.loop-r.parts c.find-still.result c.place_rest.result c.from.result c.args.records.now.held (omega arith) (omega arith)
    c.loop-r.invariant c.find-still.ensures c.plan_at-plan.ensures c.place_rest.ensures (λ h. ap part c.from.ensures ∙ entry_stands _ h)
