-- The comparisons of records that `par::Node` derives: kinds in the order of their numbers, then the fields from the left.
use Rattle.std.specs.Prelude.{ℕ, Bool}
use Rattle.std.specs.declared.cmp.Ordering.{Ordering}
use Rattle.std.specs.Ordering.{nat_cmp, ordering_then}
use Rattle.par.specs.declared.Node.{Node}
use Rattle.par.specs.declared.Node.TheVariants.{Silent, Event, Not, Either, Then, Repeat, Notify, Try}
use Rattle.par.specs.contracts.NodeOrd.TheImpl as order
use Rattle.par.specs.contracts.NodePartialEq.TheImpl as equality

abbrev pub node_cmp : Node → Node → Ordering
node_cmp = (order.ghosts).cmp

abbrev pub same_node : Node → Node → Bool
same_node = (equality.ghosts).eq

-- ---- the same by the fields: a record's kind, its first part or event, and its second part or set, 0 where it has none

abbrev pub kind_field : Node → ℕ
kind_field Silent = 1
kind_field (Event b) = 2
kind_field (Not x) = 3
kind_field (Either x y) = 4
kind_field (Then x y) = 5
kind_field (Repeat x) = 6
kind_field (Notify x A) = 7
kind_field (Try x y) = 8

abbrev pub first_field : Node → ℕ
first_field Silent = 0
first_field (Event b) = b
first_field (Not x) = x
first_field (Either x y) = x
first_field (Then x y) = x
first_field (Repeat x) = x
first_field (Notify x A) = x
first_field (Try x y) = x

abbrev pub second_field : Node → ℕ
second_field Silent = 0
second_field (Event b) = 0
second_field (Not x) = 0
second_field (Either x y) = y
second_field (Then x y) = y
second_field (Repeat x) = 0
second_field (Notify x A) = A
second_field (Try x y) = y

-- kinds first, then x, then y
abbrev pub field_cmp : Node → Node → Ordering
field_cmp a b =
    ordering_then (nat_cmp (kind_field a) (kind_field b))
    (ordering_then (nat_cmp (first_field a) (first_field b)) (nat_cmp (second_field a) (second_field b)))
