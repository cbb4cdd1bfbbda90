-- `records::next_record` meets its contract: the length that the table of kinds gives decides the last tests.
use mathlib.Core.Path.{◌≡◌}
use native.Mathlib.Omega.{arith}
use Rattle.records.specs.Fields.{word_at}
use Rattle.records.specs.Says.{Stands.wrong_length, Stands.whole}
use Rattle.records.proofs.Says.{stands_next, listed_length}
use Rattle.records.proofs.next_record.Goals as goal

pub returns-then-word_at-want : goal.returns-then-word_at-want
returns-then-word_at-want c = let l = listed_length c.args.s.now c.args.contents c.args.pos c.in-Some.want (cc) in
    stands_next (wrong_length (omega arith) (omega arith))

pub returns : goal.returns
returns c =
    let l = listed_length c.args.s.now c.args.contents c.args.pos c.in-Some.want (cc) in
    let same : word_at c.args.s.now c.args.pos 0 ≡ c.in-Some.want = omega arith in
    rw (c.from-length.ensures, ← same) (stands_next (whole (omega arith) (omega arith)))
