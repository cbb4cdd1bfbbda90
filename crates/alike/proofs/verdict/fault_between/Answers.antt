-- `alike::verdict::fault_between` meets its contract: the tests in their order, and the look-up of the pair.
use Rattle.std.proofs.Common.{rules, arith, ◌≡◌, ◌≢◌, ap, inl, inr, Some, None}
use Rattle.par.specs.Status.{status_byte}
use Rattle.records.specs.Refusals.{number}
use Rattle.alike.specs.Settled.{PartFault.notices_apart, PartFault.statuses_apart, PartFault.one_missing, PartFault.unlisted, PartFault.all_met}
use Rattle.alike.proofs.Scanning.{row_asked, asked_row, right_missing}
use Rattle.alike.proofs.verdict.fault_between.Goals as goal
use Rattle.alike.proofs.verdict.fault_between.Goals.{else-left-right-via-then-left-right+else-not-lists, else-left-right-via-else-left-right}

pub returns-then-p-q : goal.returns-then-p-q
returns-then-p-q c = notices_apart c.if-p-q.true

pub returns-then-ne : goal.returns-then-ne
returns-then-ne c = let apart : c.args.p.status ≢ c.args.q.status = search rules in statuses_apart (cc) apart

pub returns-in_err-left : goal.returns-in_err-left
returns-in_err-left c =
    let twelve : number c.from_residual.result ≡ 12 = search rules in
    let none : c.args.p.remains ≡ None = search rules in
    let same : c.args.p.status ≡ c.args.q.status = search rules in
    rw twelve (one_missing (cc) same (inl none))

pub returns-in_err-right : goal.returns-in_err-right
returns-in_err-right c =
    let twelve : number c.from_residual-in_err-right.result ≡ 12 = search rules in
    let none : c.args.q.remains ≡ None = search rules in
    let same : c.args.p.status ≡ c.args.q.status = search rules in
    rw twelve (right_missing (cc) (ap status_byte same) none)

pub returns-then-not-lists : goal.returns-then-not-lists
returns-then-not-lists c =
    let left : c.args.p.remains ≡ Some c.in_ok-left.left = search rules in
    let right : c.args.q.remains ≡ Some c.in_ok-right.right = search rules in
    let same : c.args.p.status ≡ c.args.q.status = search rules in
    unlisted (cc) same left right c.if-left-right.true
    (λ l. let h = c.if-not-lists.ensures.1 (row_asked c.args.pairs.now.listed.now l (omega arith) (omega arith)) in cc)

pub returns : goal.returns
returns c =
    let left : c.args.p.remains ≡ Some c.in_ok-left.left = search rules in
    let right : c.args.q.remains ≡ Some c.in_ok-right.right = search rules in
    let same : c.args.p.status ≡ c.args.q.status = search rules in
    all_met (cc) same left right
    (elim c.else-left-right.branch [
      | else-left-right-via-then-left-right+else-not-lists w ↦
          inr (asked_row c.args.pairs.now.listed.now (w.if-not-lists.ensures.0 (search rules)) (omega arith) (omega arith))
      | else-left-right-via-else-left-right w ↦ inl w.if-left-right.false
    ])
