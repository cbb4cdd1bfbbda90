-- What it leaves is what the mirror takes by the route that was told.
use Rattle.std.proofs.Common.{refl, arith}
use Rattle.play.proofs.Routes.{down_event, down_part, down_done}
use Rattle.play.proofs.moves.+down.Goals as goal

pub returns-in-Silent : goal.returns-in-Silent
returns-in-Silent t c =
    down_done _ _ _ _ _ _ (omega arith) c.from-x.ensures c.from-kind.ensures c.in-Silent.ensures.way _ (λ f h. refl)

pub returns-in-First : goal.returns-in-First
returns-in-First t c =
    down_done _ _ _ _ _ _ (omega arith) c.from-x.ensures c.from-kind.ensures c.in-First.ensures.way _
    (λ f h. down_part _ _ _ _ c.first_part.ensures.first c.first_part.ensures.last c.down.ensures f (omega (arith, c.in-First.ensures.placed)))

pub returns-in-Second : goal.returns-in-Second
returns-in-Second t c =
    down_done _ _ _ _ _ _ (omega arith) c.from-x.ensures c.from-kind.ensures c.in-Second.ensures.way _
    (λ f h. down_part _ _ _ _ c.second_part.ensures.first c.second_part.ensures.last c.down-in-Second.ensures f (omega arith))

pub returns-in-One : goal.returns-in-One
returns-in-One t c =
    down_done _ _ _ _ _ _ (omega arith) c.from-x.ensures c.from-kind.ensures c.in-One.ensures.way _
    (λ f h.
    rw (← down_part _ _ _ _ c.first_part-in-One.ensures.first c.first_part-in-One.ensures.last c.down-s.ensures f (omega (arith, c.in-One.ensures.placed)))
    c.one_end.ensures)

pub returns-in-Both : goal.returns-in-Both
returns-in-Both t c =
    down_done _ _ _ _ _ _ (omega arith) c.from-x.ensures c.from-kind.ensures c.in-Both.ensures.way _
    (λ f h. rw (
      ← down_part _ _ _ _ c.first_part-in-Both.ensures.first c.first_part-in-Both.ensures.last c.down-s-in-Both.ensures f (omega (arith, c.in-Both.ensures.placed)),
      ← down_part _ _ _ _ c.second_part-in-Both.ensures.first c.second_part-in-Both.ensures.last c.down-t.ensures f (omega arith),
    ) c.both_end.ensures)

pub returns-in-Left : goal.returns-in-Left
returns-in-Left t c =
    down_done _ _ _ _ _ _ (omega arith) c.from-x.ensures c.from-kind.ensures c.in-Left.ensures.way _
    (λ f h.
    rw (← down_part _ _ _ _ c.first_part-in-Left.ensures.first c.first_part-in-Left.ensures.last c.down-s-in-Left.ensures f (omega (arith, c.in-Left.ensures.placed)))
    c.both_end-in-Left.ensures)

pub returns-in-Right : goal.returns-in-Right
returns-in-Right t c =
    down_done _ _ _ _ _ _ (omega arith) c.from-x.ensures c.from-kind.ensures c.in-Right.ensures.way _
    (λ f h.
    rw (← down_part _ _ _ _ c.second_part-in-Right.ensures.first c.second_part-in-Right.ensures.last c.down-t-in-Right.ensures f (omega arith))
    c.both_end-in-Right.ensures)

pub returns-then-span-r : goal.returns-then-span-r
returns-then-span-r t c =
    rw (c.without-words.ensures, c.one.ensures) (down_event _ _ _ _ _ _ c.if-span-r.true)
