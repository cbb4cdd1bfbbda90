-- Mirror. One event on the nodes of a rule. F are the nodes, G what they gain, T the events in play that came.
use Rattle.std.specs.Prelude.{ℕ, zero, suc, ◌+◌, ◌-◌, ◌≤◌, ◌<◌, Bool, cond, List, eqb, leb, ltb}
use Rattle.par.specs.declared.Status.{Status}
use Rattle.par.specs.declared.Status.TheVariants.{Waiting, Success, Failure}
use Rattle.par.specs.Status.{opposite, higher, lower, tried}
use Rattle.par.specs.Expr.{join}
use Rattle.play.specs.declared.ends.Words.{Words}
use Rattle.play.specs.declared.ways.Route.{Route}
use Rattle.play.specs.declared.ways.Route.TheVariants.{Silent, One, First, Second, Both, Left, Right}
use Rattle.play.specs.Mirror.Masks.{bit, one, with, less, clear, hit}
use Rattle.play.specs.Mirror.Nodes.{kind_at, first_at, gain_at}

-- ---- what a step changes

abbrev pub words : ℕ → ℕ → ℕ → ℕ → Words
words A W C S = record { active = A; going = W; counted = C; notices = S }

pub record Made : Type 0 where
  pub status : Status
  pub after : Words

abbrev pub made : Status → Words → Made
made s st = record { status = s; after = st }

-- ---- which way a node takes an event

-- either and try: both parts, or the one that holds an event that came; where the node itself is out of play, one part is left of it
unfoldable pub pair_route : ℕ → Bool → Bool → Bool → Route
pair_route kind here p q = cond here (cond (eqb kind 5) One (cond p (cond q Both Left) Right)) (cond p First Second)

unfoldable pub route_of : ℕ → ℕ → ℕ → ℕ → ℕ → ℕ → Route
route_of kind A T lo x r =
    cond (ltb kind 3) Silent
    (cond (ltb 8 kind) Silent
    (cond (ltb x lo) Silent
    (cond (leb r x) Silent
    (cond (eqb kind 3) One
    (cond (eqb kind 6) One
    (cond (eqb kind 7) One
    (cond (leb r (x + 1)) Silent
    (pair_route kind (bit A r) (hit T lo x) (hit T (x + 1) (r - 1))))))))))

-- where the parts stand: the first in lo .. r - 1, and of two the second after it
abbrev pub Placed : ℕ → ℕ → ℕ → Route → Type 0
Placed lo x r Silent = Unit {0}
Placed lo x r One = (lo ≤ x) × (x < r)
Placed lo x r First = (lo ≤ x) × (x + 1 < r)
Placed lo x r Second = (lo ≤ x) × (x + 1 < r)
Placed lo x r Both = (lo ≤ x) × (x + 1 < r)
Placed lo x r Left = (lo ≤ x) × (x + 1 < r)
Placed lo x r Right = (lo ≤ x) × (x + 1 < r)

-- ---- a node with one part that steps, by its kind, that part's status and what it gains

unfoldable pub one_status : ℕ → Status → Status
one_status kind s = cond (eqb kind 3) (opposite s) (cond (eqb kind 7) s (lower s Waiting))

-- the nodes in play: a then goes on with its second part, a repeat has its body anew
abbrev pub gained_active : ℕ → ℕ → ℕ → ℕ → ℕ → ℕ
gained_active kind g lo r A = cond (eqb kind 5) (with (less A (one r)) g) (cond (eqb kind 6) (with A g) (clear A lo r))

unfoldable pub one_active : ℕ → Status → ℕ → ℕ → ℕ → ℕ → ℕ
one_active kind Waiting g lo r A = A
one_active kind Success g lo r A = gained_active kind g lo r A
one_active kind Failure g lo r A = clear A lo r

-- a repeat that starts anew does not go on in its body, nor do the repeats in it
unfoldable pub one_going : ℕ → Status → ℕ → ℕ → ℕ → ℕ
one_going kind Waiting lo r W = W
one_going kind Success lo r W = cond (eqb kind 6) (clear W lo r) W
one_going kind Failure lo r W = W

unfoldable pub one_sent : ℕ → Status → ℕ → ℕ → ℕ
one_sent kind Waiting g S = S
one_sent kind Success g S = cond (eqb kind 7) (join S g) S
one_sent kind Failure g S = S

unfoldable pub one_end : ℕ → ℕ → ℕ → ℕ → Made → Made
one_end kind g lo r m =
    made (one_status kind m.status)
    (words (one_active kind m.status g lo r m.after.active) (one_going kind m.status lo r m.after.going) m.after.counted
    (one_sent kind m.status g m.after.notices))

-- ---- either and try, by their parts' statuses

unfoldable pub both_status : ℕ → Status → Status → Status
both_status kind s t = cond (eqb kind 4) (higher s t) (tried s t)

-- where a part has completed the node itself leaves
unfoldable pub left_active : Status → Status → ℕ → ℕ → ℕ
left_active Waiting Waiting r A = A
left_active Waiting Success r A = less A (one r)
left_active Waiting Failure r A = less A (one r)
left_active Success t r A = less A (one r)
left_active Failure t r A = less A (one r)

unfoldable pub both_active : Status → Status → Status → ℕ → ℕ → ℕ → ℕ
both_active Waiting s t lo r A = left_active s t r A
both_active Success s t lo r A = clear A lo r
both_active Failure s t lo r A = clear A lo r

-- a try whose first part completed does not count the second's lines
unfoldable pub try_counted : Status → ℕ → ℕ → ℕ → ℕ
try_counted Waiting x r C = C
try_counted Success x r C = clear C (x + 1) (r - 1)
try_counted Failure x r C = clear C (x + 1) (r - 1)

unfoldable pub both_counted : ℕ → Status → ℕ → ℕ → ℕ → ℕ
both_counted kind s x r C = cond (eqb kind 4) C (try_counted s x r C)

unfoldable pub both_end : ℕ → ℕ → ℕ → ℕ → Status → Made → Made
both_end kind lo x r s m =
    made (both_status kind s m.status)
    (words (both_active (both_status kind s m.status) s m.status lo r m.after.active) m.after.going
    (both_counted kind s x r m.after.counted) m.after.notices)

-- ---- a node, by its route, where `go lo r st` steps its parts

abbrev pub taken : (ℕ → ℕ → Words → Made) → Route → ℕ → ℕ → ℕ → ℕ → ℕ → Words → Made
taken go Silent kind g lo x r st = made Waiting st
taken go One kind g lo x r st = one_end kind g lo r (go lo x st)
taken go First kind g lo x r st = go lo x st
taken go Second kind g lo x r st = go (x + 1) (r - 1) st
taken go Both kind g lo x r st = let m = go lo x st in both_end kind lo x r m.status (go (x + 1) (r - 1) m.after)
taken go Left kind g lo x r st = let m = go lo x st in both_end kind lo x r m.status (made Waiting m.after)
taken go Right kind g lo x r st = both_end kind lo x r Waiting (go (x + 1) (r - 1) st)

-- an event that came
abbrev pub came : ℕ → Words → Made
came r st = made Success (words (less st.active (one r)) st.going st.counted st.notices)

-- node r, whose nodes stand from lo on; where it is the only one it is an event that came. The first argument is above r
module _ (F G : List ℕ) (T : ℕ) where
  unfoldable pub down : ℕ → ℕ → ℕ → Words → Made
  down zero lo r st = made Waiting st
  down (suc f) lo r st =
      cond (eqb lo r) (came r st)
      (taken (down f) (route_of (kind_at F r) st.active T lo (first_at F r) r) (kind_at F r) (gain_at G r) lo (first_at F r) r st)
