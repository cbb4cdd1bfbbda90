-- Mirror. A rule written out: the nodes, the notice sets that they gain, and how many are written.
use Rattle.std.specs.Prelude.{ℕ, zero, suc, ◌+◌, ◌-◌, ◌≤◌, ◌<◌, ◌≡◌, List, length, set}
use Rattle.par.specs.declared.Node.{Node}
use Rattle.par.specs.declared.Node.TheVariants.{Silent, Event, Not, Either, Then, Repeat, Notify, Try}
use Rattle.par.specs.Expr.{size}
use Rattle.par.specs.Records.{expr}
use Rattle.files.specs.Rule.{Earlier}
use Rattle.play.specs.Mirror.Nodes.{packed}
use Rattle.ready.specs.declared.writing.Written.{Written}

abbrev pub wrote : List ℕ → List ℕ → ℕ → Written
wrote F S n = record { nodes = F; sets = S; count = n }

-- one node more
abbrev pub put : Written → ℕ → ℕ → ℕ → Written
put w kind x A = wrote (set w.nodes w.count (packed kind x)) (set w.sets w.count A) (w.count + 1)

-- the node of the last one written
abbrev pub last : Written → ℕ
last w = w.count - 1

-- a record written out, where `go` writes its parts out
abbrev pub assembled : (ℕ → Written → Written) → Node → Written → Written
assembled go Silent w = put w 1 0 0
assembled go (Event b) w = put w 2 b 0
assembled go (Not x) w = let v = go x w in put v 3 (last v) 0
assembled go (Either x y) w = let v = go x w in put (go y v) 4 (last v) 0
assembled go (Then x y) w = let v = go x w in put (go y v) 5 (last v) 0
assembled go (Repeat x) w = let v = go x w in put v 6 (last v) 0
assembled go (Notify x A) w = let v = go x w in put v 7 (last v) A
assembled go (Try x y) w = let v = go x w in put (go y v) 8 (last v) 0

-- record r written out; the second argument is above r
unfoldable pub written_out : (ℕ → Node) → ℕ → ℕ → Written → Written
written_out node zero r w = w
written_out node (suc f) r w = assembled (written_out node f) (node r) w

abbrev pub Writes : (ℕ → Node) → ℕ → Written → Written → Type 0
Writes node r w v = (f : ℕ) → r < f → v ≡ written_out node f r w

-- what writing record r of n out behind w asks: its parts stand before it, and there is room
pub record Room (node : ℕ → Node) (n r : ℕ) (w : Written) : Type 0 where
  pub within : r < n
  pub earlier : Earlier node n
  pub room : w.count + size (expr node r) ≤ 64
  pub nodes_long : length w.nodes ≡ 64
  pub sets_long : length w.sets ≡ 64
