-- What this crate promises, each theorem whole, with the file that proves it cited. Assumes nothing: there is no axiom in the crate.
use Prim.Native.Nat.{ℕ, suc, ◌/◌, ◌%◌, ◌^◌, ◌<◌, ◌≤◌, min, max}
use mathlib.Core.Path.{◌≡◌, refl, sym, ◌∙◌}
use mathlib.Core.List.{List, [], ◌∷◌, map, Memᴰ}
use mathlib.Core.Logic.{◌≢◌, ◌↔◌}
use Rattle.std.specs.declared.cmp.Ordering.TheVariants.{Equal}
use Rattle.std.specs.Bool.{Decides}
use Rattle.par.specs.declared.Status.{Status}
use Rattle.par.specs.declared.Status.TheVariants.{Waiting}
use Rattle.par.specs.declared.Node.{Node}
use Rattle.par.specs.Status.{higher, lower, tried, rank}
use Rattle.par.specs.Expr.{Expr, join, size}
use Rattle.par.specs.Expr.{Expr.silent, Expr.event, Expr.not, Expr.either, Expr.then, Expr.repeat, Expr.notify, Expr.try}
use Rattle.par.specs.Figures.{Completes, rules_used, Becomes, Sends, Completes.α_sel}
use Rattle.par.specs.Step.{status, notices, remainder, lines, made}
use Rattle.par.specs.Feed.{answers, after, notices_on, statuses_on, Bytes}
use Rattle.par.specs.Like.{Like, Swapped, Closed}
use Rattle.par.specs.Moving.{Moved}
use Rattle.par.specs.Moving.{Moved.over_notify, Moved.of_none, Moved.over_then, Moved.over_either, Moved.over_try, Moved.over_repeat}
use Rattle.par.specs.Throughout.{Unnamed, Fits, Writable}
use Rattle.par.specs.Exchange.{Exchangeable, SameInBoth, ToldApart}
use Rattle.par.specs.Growth.{most_nodes, repeats}
use Rattle.par.specs.Records.{expr, File}
use Rattle.par.specs.Nodes.{node_cmp, same_node, field_cmp}
use Rattle.par.proofs.Nodes
use Rattle.par.proofs.Order
use Rattle.par.proofs.Sets
use Rattle.par.proofs.Figure3
use Rattle.par.proofs.Lines
use Rattle.par.proofs.Figure4
use Rattle.par.proofs.Figure5
use Rattle.par.proofs.Silence.{nothing}
use Rattle.par.proofs.Silence
use Rattle.par.proofs.LikeSwapped
use Rattle.par.proofs.LikeEquations
use Rattle.par.proofs.LikeClosed
use Rattle.par.proofs.LikeMoved.{moved_like}
use Rattle.par.proofs.LikeSettings
use Rattle.par.proofs.LikeWidest
use Rattle.par.proofs.Growth
use Rattle.par.proofs.Weight
use Rattle.par.proofs.Rounds
use Rattle.par.proofs.Throughout
use Rattle.par.proofs.Unnamed
use Rattle.par.proofs.Records
use Rattle.par.proofs.Worked.{Worked}
use Rattle.par.proofs.Worked

-- ---- The figures are the functions

pub figure_3 : (x : Expr) (a : ℕ) (c : Status) → Completes x a c ↔ (status x a ≡ c)
figure_3 = Figure3.figure_3

pub figure_4 : (x : Expr) (a : ℕ) (x' : Expr) → Becomes x a x' ↔ (remainder x a ≡ x')
figure_4 = Figure4.figure_4

pub figure_5 : (x : Expr) (a o : ℕ) → Sends x a o ↔ (notices x a ≡ o)
figure_5 = Figure5.figure_5

-- So the figures give every expression one status, one remainder and one notice set on every event.
pub one_status : (x : Expr) (a : ℕ) → Completes x a (status x a) × ((c : Status) → Completes x a c → c ≡ status x a)
one_status x a = ((figure_3 x a (status x a)).1 refl, λ c p. sym ((figure_3 x a c).0 p))

pub one_remainder : (x : Expr) (a : ℕ) → Becomes x a (remainder x a) × ((x' : Expr) → Becomes x a x' → x' ≡ remainder x a)
one_remainder x a = ((figure_4 x a (remainder x a)).1 refl, λ x' p. sym ((figure_4 x a x').0 p))

pub one_notice_set : (x : Expr) (a : ℕ) → Sends x a (notices x a) × ((o : ℕ) → Sends x a o → o ≡ notices x a)
one_notice_set x a = ((figure_5 x a (notices x a)).1 refl, λ o p. sym ((figure_5 x a o).0 p))

-- The lines of a step are the rules of figure 3 that it uses, in whatever way its status is derived.
pub lines_are_rules : {x : Expr} {a : ℕ} {c : Status} (p : Completes x a c) → lines x a ≡ rules_used p
lines_are_rules = Lines.lines_are_rules

-- The two tables of the code are figure 3's rules for two parts.
pub either_table_lem : {x y : Expr} {a : ℕ} {c d : Status} → Completes x a c → Completes y a d → Completes (either x y) a (higher c d)
either_table_lem p q = α_sel p q

pub try_table_lem : {x y : Expr} {a : ℕ} {c d : Status} → Completes x a c → Completes y a d → Completes (try x y) a (tried c d)
try_table_lem {c = c} {d = d} p q = Figure3.completes_try c d p q

-- `higher` and `lower` are the greater and the lesser in the order failure, waiting, success.
pub higher_is_max : (c d : Status) → rank (higher c d) ≡ max (rank c) (rank d)
higher_is_max = Order.higher_is_max

pub lower_is_min : (c d : Status) → rank (lower c d) ≡ min (rank c) (rank d)
lower_is_min = Order.lower_is_min

-- `join` is union: recipient i is in it exactly where it is in one of the two sets.
pub join_recipient : (A B i : ℕ) → join A B / 2 ^ i % 2 ≡ max (A / 2 ^ i % 2) (B / 2 ^ i % 2)
join_recipient = Sets.join_recipient

-- ---- Adequacy: a status other than waiting leaves silent, and silent answers "none, waiting" for ever

pub completed_is_silent : {x x' : Expr} {a : ℕ} {c : Status} → Completes x a c → c ≢ Waiting → Becomes x a x' → x' ≡ silent
completed_is_silent {x} {x'} {a} {c} p n q =
    sym ((figure_4 x a x').0 q) ∙ Figure4.finished x a (λ e. n (sym ((figure_3 x a c).0 p) ∙ e))

pub silent_for_ever : (feed : List ℕ) → answers silent feed ≡ map (λ a. nothing) feed
silent_for_ever = Silence.silent_answers

-- ---- Alike parts may be exchanged anywhere, at one spot or several

pub swapped_like : {x y : Expr} → Like x y → {u v : Expr} → Swapped x y u v → Like u v
swapped_like = LikeSwapped.swapped_like

-- ---- The eight equations of section 6

-- x | y = y | x
pub either_comm : (x y : Expr) → Like (either x y) (either y x)
either_comm = LikeEquations.either_comm

-- x | (y | z) = (x | y) | z
pub either_assoc : (x y z : Expr) → Like (either x (either y z)) (either (either x y) z)
either_assoc = LikeEquations.either_assoc

-- x | x = x
pub either_self : (x : Expr) → Like (either x x) x
either_self = LikeEquations.either_self

-- not not x = x
pub not_not : (x : Expr) → Like (not (not x)) x
not_not = LikeEquations.not_not

-- x ; (y ; z) = (x ; y) ; z
pub then_assoc : (x y z : Expr) → Like (then x (then y z)) (then (then x y) z)
then_assoc = LikeEquations.then_assoc

-- not (x ; y) = not x | x ; not y
pub not_then : (x y : Expr) → Like (not (then x y)) (either (not x) (then x (not y)))
not_then = LikeEquations.not_then

-- x ; try y unless z = try x ; y unless x ; z
pub then_try : (x y z : Expr) → Like (then x (try y z)) (try (then x y) (then x z))
then_try = LikeEquations.then_try

-- repeat x = x ; repeat x
pub repeat_once : (x : Expr) → Like (repeat x) (then x (repeat x))
repeat_once = LikeEquations.repeat_once

-- ---- Every pair of a closed list is alike

pub closed_like : (pairs : List (Expr × Expr)) → Closed (λ x y. Memᴰ (x, y) pairs) → (x y : Expr) → Memᴰ (x, y) pairs → Like x y
closed_like pairs = LikeClosed.closed_like (λ x y. Memᴰ (x, y) pairs)

-- ---- A notice moved inwards or outwards

-- notify of notify is notify of the joined sets
pub notify_notify : (x : Expr) (A B : ℕ) → Like (notify (notify x A) B) (notify x (join A B))
notify_notify x A B = moved_like over_notify

-- an empty set changes nothing
pub notify_none : (x : Expr) → Like (notify x 0) x
notify_none x = moved_like of_none

-- notify over "x then y" is x then notify y
pub notify_then : (x y : Expr) (A : ℕ) → Like (notify (then x y) A) (then x (notify y A))
notify_then x y A = moved_like over_then

-- over either it goes to both parts
pub notify_either : (x y : Expr) (A : ℕ) → Like (notify (either x y) A) (either (notify x A) (notify y A))
notify_either x y A = moved_like over_either

-- over try it goes to the try part
pub notify_try : (x y : Expr) (A : ℕ) → Like (notify (try x y) A) (try (notify x A) y)
notify_try x y A = moved_like over_try

-- over repeat it may be dropped
pub notify_repeat : (x : Expr) (A : ℕ) → Like (notify (repeat x) A) (repeat x)
notify_repeat x A = moved_like over_repeat

-- each of them inside a larger rule, at one spot or several
pub moved_anywhere : {x y : Expr} → Moved x y → {u v : Expr} → Swapped x y u v → Like u v
moved_anywhere m = swapped_like (moved_like m)

-- ---- Likeness is the widest relation under which rules can be exchanged (the paper's theorem 4 (2))

-- Equal notices inside every larger rule that can be written, where there is a recipient, are likeness: equal statuses come with them.
pub exchangeable_is_like : (k : ℕ) → 0 < k → (x y : Expr) → Writable k x → Writable k y → Exchangeable k x y ↔ Like x y
exchangeable_is_like k some x y p q = (LikeWidest.exchangeable_like k some p q, LikeWidest.like_exchangeable k)

-- In the paper's words: a congruence that refines equality of notices refines likeness. By `swapped_like` likeness is such a congruence.
pub widest : (k : ℕ) → 0 < k → (R : Expr → Expr → Type 0)
    → ((x y u v : Expr) → R x y → Swapped x y u v → Writable k u → Writable k v → R u v)
    → ((x y : Expr) → R x y → Writable k x → Writable k y → (feed : List ℕ) → Bytes feed → notices_on x feed ≡ notices_on y feed)
    → (x y : Expr) → R x y → Writable k x → Writable k y → Like x y
widest k some R congruence refines x y r p q =
    (exchangeable_is_like k some x y p q).0 (record { inside = λ {u} {v} s p' q'. refines u v (congruence x y u v r s p' q') p' q' })

-- Two larger rules are enough: the expression as it is, and reversed, before any w that sends something on some byte.
pub same_in_both_like : (w : Expr) (b : ℕ) → b < 256 → notices w b ≢ 0 → {x y : Expr} → SameInBoth w x y → Like x y
same_in_both_like = LikeSettings.same_in_both_like

-- Where statuses differ on some feed, notices differ in one of the two on some feed.
pub brought_to_light : (w : Expr) (b : ℕ) → b < 256 → notices w b ≢ 0 → (feed : List ℕ) → Bytes feed
    → (x y : Expr) → statuses_on x feed ≢ statuses_on y feed → ToldApart w x y
brought_to_light = LikeSettings.brought_to_light

-- Equal notices of the two by themselves are not enough.
pub alone_not_enough : (k : ℕ) → 0 < k → (b : ℕ) → b < 256
    → ((feed : List ℕ) → notices_on (event b) feed ≡ notices_on silent feed) × ¬ Exchangeable k (event b) silent
alone_not_enough k some b l =
    (LikeWidest.same_alone b, λ e. LikeWidest.not_alike b l ((exchangeable_is_like k some (event b) silent l tt).0 e))

-- ---- No rule outgrows its bounds, on any feed

pub size_after : (x : Expr) (feed : List ℕ) → size (after x feed) ≤ most_nodes (size x)
size_after = Growth.size_after

-- No lower one holds, at any size from 1 on: repeats around an event reach it, on any other event.
pub size_reached : (b a : ℕ) → a ≢ b → (k : ℕ)
    → (size (repeats k (event b)) ≡ suc k) × (size (after (repeats k (event b)) (a ∷ [])) ≡ most_nodes (suc k))
size_reached = Growth.size_reached

pub size_after_64 : (x : Expr) (feed : List ℕ) → size x ≤ 64 → size (after x feed) ≤ 2143
size_after_64 = Growth.size_after_64

pub size_reached_64 : (b a : ℕ) → a ≢ b → (size (repeats 63 (event b)) ≡ 64) × (size (after (repeats 63 (event b)) (a ∷ [])) ≡ 2143)
size_reached_64 b a other = size_reached b a other 63

pub made_after : (x : Expr) (feed : List ℕ) → made (after x feed) < size x
made_after = Weight.made_after

pub lines_after : (x : Expr) (feed : List ℕ) (a : ℕ) → lines (after x feed) a ≤ size x
lines_after = Weight.lines_after

-- No lower one holds either: repeats around an event use so many at every step.
pub lines_reached : (b k : ℕ) (feed : List ℕ) (a : ℕ) → lines (after (repeats k (event b)) feed) a ≡ size (repeats k (event b))
lines_reached = Rounds.lines_reached

pub notices_after : (k : ℕ) (x : Expr) (feed : List ℕ) (a : ℕ) → Fits k x → notices (after x feed) a < 2 ^ k
notices_after = Throughout.notices_after_lt

-- ---- An event that the expression does not name is waiting, sends nothing and alters no later notice or status

pub unnamed_waits : (x : Expr) (a : ℕ) → Unnamed a x → (status x a ≡ Waiting) × (notices x a ≡ 0) × Like (remainder x a) x
unnamed_waits x a u = (Unnamed.unnamed_status x a u, Unnamed.unnamed_notices x a u, Unnamed.unnamed_like x a u)

-- ---- Equal expressions have equal record numbers, in a file with no two equal records

pub one_record : (n : ℕ) (node : ℕ → Node) → File n node → (i j : ℕ) → i < n → j < n → expr node i ≡ expr node j → i ≡ j
one_record = Records.one_record

-- ---- P1 to P4 of document 01

pub worked : Worked
worked = Worked.worked

-- ---- Records stand in the order of their kinds, then of their first parts or events, then of their second parts or sets; and are told apart by all three

pub node_cmp_fields : (a b : Node) → node_cmp a b ≡ field_cmp a b
node_cmp_fields = Nodes.node_cmp_fields

pub node_equal : (a b : Node) → node_cmp a b ≡ Equal → a ≡ b
node_equal = Nodes.node_equal

pub same_node_lem : (a b : Node) → Decides (same_node a b) (a ≡ b)
same_node_lem = Nodes.same_node_lem
