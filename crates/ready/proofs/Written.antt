-- What is written out lays the record's expression; it has as many nodes as the expression, and what stood before it stays. The lists keep their
-- lengths, whatever is written out.
use Prim.Native.Nat.{ℕ, zero, suc, ◌+◌, ◌-◌, ◌≤◌, ◌<◌}
use mathlib.Core.Path.{◌≡◌, refl, ◌∙◌}
use mathlib.Core.List.{List}
use native.Mathlib.Omega.{arith}
use lib.ListN.{length, get_or, set, length-set}
use lib.Seq.{get_or-set_same}
use Rattle.par.specs.declared.Node.{Node}
use Rattle.par.specs.declared.Node.TheVariants.{Silent, Event, Not, Either, Then, Repeat, Notify, Try}
use Rattle.par.specs.Expr.{Expr, size}
use Rattle.par.specs.Records.{grow, Parts, expr}
use Rattle.par.proofs.Records.{expr_step}
use Rattle.files.specs.Rule.{Earlier}
use Rattle.play.specs.Mirror.Nodes.{packed}
use Rattle.ready.specs.declared.writing.Written.{Written}
use Rattle.ready.specs.Mirror.WrittenOut.{put, last, assembled, written_out, Room}
use Rattle.ready.proofs.Keeps.{Keeps, keeps_self, keeps_on, keeps_set}
use Rattle.ready.proofs.Lays.{Lays, Lays.silent, Lays.event, Lays.not, Lays.either, Lays.then, Lays.repeat, Lays.notify, Lays.try, lays_keeps}

-- ---- an expression written out

-- v came from w by writing behind it
pub record Kept (w v : Written) : Type 0 where
  pub more : w.count ≤ v.count
  pub nodes : Keeps w.count w.nodes v.nodes
  pub sets : Keeps w.count w.sets v.sets

-- e stands in v behind what w holds, its root last
pub record Out (e : Expr) (w v : Written) : Type 0 where
  pub count : v.count ≡ w.count + size e
  pub kept : Kept w v
  pub lays : Lays v.nodes v.sets w.count (last v) e

-- there is room for e behind w
record Fits (e : Expr) (w : Written) : Type 0 where
  room : w.count + size e ≤ 64
  nodes_long : length w.nodes ≡ 64
  sets_long : length w.sets ≡ 64

kept_self : {w : Written} → Kept w w
kept_self = record { more = omega arith; nodes = keeps_self; sets = keeps_self }

kept_on : {w v u : Written} → Kept w v → Kept v u → Kept w u
kept_on p q =
    let h = p.more in
    let k = q.more in
    record { more = omega arith; nodes = keeps_on h p.nodes q.nodes; sets = keeps_on h p.sets q.sets }

kept_put : (v : Written) (kind x A : ℕ) → Kept v (put v kind x A)
kept_put v kind x A =
    record { more = omega arith; nodes = keeps_set v.nodes v.count (packed kind x); sets = keeps_set v.sets v.count A }

fits_on : {w v : Written} {d e : Expr} → Fits e w → Kept w v → v.count + size d ≤ 64 → Fits d v
fits_on fits kept room = record { room = room; nodes_long = kept.nodes.long ∙ fits.nodes_long; sets_long = kept.sets.long ∙ fits.sets_long }

pub size_some : (e : Expr) → 1 ≤ size e
unfolding size
size_some Expr.silent = omega arith
size_some (Expr.event b) = omega arith
size_some (Expr.not x) = omega arith
size_some (Expr.either x y) = omega arith
size_some (Expr.then x y) = omega arith
size_some (Expr.repeat x) = omega arith
size_some (Expr.notify x A) = omega arith
size_some (Expr.try x y) = omega arith

-- ---- one node put behind the nodes of its parts

put_out : {e : Expr} {w v : Written} → Fits e w → (kind x A : ℕ) → Kept w v → v.count + 1 ≡ w.count + size e
    → (get_or (set v.nodes v.count (packed kind x)) v.count 0 ≡ packed kind x → get_or (set v.sets v.count A) v.count 0 ≡ A
    → Lays (set v.nodes v.count (packed kind x)) (set v.sets v.count A) w.count v.count e)
    → Out e w (put v kind x A)
put_out {v = v} fits kind x A kept count lays =
    let room = fits.room in
    let long = kept.nodes.long ∙ fits.nodes_long in
    let long' = kept.sets.long ∙ fits.sets_long in
    let q : v.count + 1 - 1 ≡ v.count = omega arith in
    record {
      count = count;
      kept = kept_on kept (kept_put v kind x A);
      lays = rw q (lays (get_or-set_same v.nodes v.count (packed kind x) 0 (omega arith)) (get_or-set_same v.sets v.count A 0 (omega arith)));
    }

-- ---- a record written out, where `go` writes earlier ones out

module _ (es : ℕ → Expr) (go : ℕ → Written → Written) (r : ℕ)
    (ih : (x : ℕ) → x < r → (w : Written) → Fits (es x) w → Out (es x) w (go x w)) (w : Written) where
  one_out : {e : Expr} → Fits e w → (kind A x : ℕ) → x < r → size e ≡ 1 + size (es x)
      → ((q : ℕ) (G T : List ℕ) → get_or G (suc q) 0 ≡ packed kind q → get_or T (suc q) 0 ≡ A → Lays G T w.count q (es x)
      → Lays G T w.count (suc q) e)
      → Out e w (put (go x w) kind (last (go x w)) A)
  one_out fits kind A x h sized own =
      let room = fits.room in
      let v = go x w in
      let X = ih x h w (fits_on fits kept_self (omega arith)) in
      let is = X.count in
      let some = size_some (es x) in
      let z : suc (v.count - 1) ≡ v.count = omega arith in
      let k = kept_put v kind (last v) A in
      put_out fits kind (last v) A X.kept (omega arith)
      (λ i j. (rw z at (own (v.count - 1))) _ _ i j (lays_keeps k.nodes k.sets (omega arith) X.lays))

  two_out : {e : Expr} → Fits e w → (kind x y : ℕ) → (x < r) × (y < r) → size e ≡ 1 + size (es x) + size (es y)
      → ((p q : ℕ) (G T : List ℕ) → get_or G (suc q) 0 ≡ packed kind p → p < q → Lays G T w.count p (es x) → Lays G T (suc p) q (es y)
      → Lays G T w.count (suc q) e)
      → Out e w (put (go y (go x w)) kind (last (go x w)) 0)
  two_out fits kind x y h sized own =
      let room = fits.room in
      let v = go x w in
      let u = go y v in
      let X = ih x h.0 w (fits_on fits kept_self (omega arith)) in
      let is = X.count in
      let Y = ih y h.1 v (fits_on fits X.kept (omega arith)) in
      let is' = Y.count in
      let some = size_some (es x) in
      let some' = size_some (es y) in
      let z : suc (v.count - 1) ≡ v.count = omega arith in
      let z' : suc (u.count - 1) ≡ u.count = omega arith in
      let k = kept_put u kind (last v) 0 in
      let k' = kept_on Y.kept k in
      put_out fits kind (last v) 0 (kept_on X.kept Y.kept) (omega arith)
      (λ i j. (rw (z, z') at (own (v.count - 1) (u.count - 1))) _ _ i (omega arith) (lays_keeps k'.nodes k'.sets (omega arith) X.lays)
      (lays_keeps k.nodes k.sets (omega arith) Y.lays))

  assembled_out : (m : Node) → Parts (λ p. p < r) m → Fits (grow es m) w → Out (grow es m) w (assembled go m w)
  unfolding size
  assembled_out Silent u fits = put_out fits 1 0 0 kept_self refl (λ i j. silent i)
  assembled_out (Event b) u fits = put_out fits 2 b 0 kept_self refl (λ i j. event i)
  assembled_out (Not x) u fits = one_out fits 3 0 x u refl (λ q G T i j m. not i m)
  assembled_out (Either x y) u fits = two_out fits 4 x y u refl (λ p q G T i l m k. either i l m k)
  assembled_out (Then x y) u fits = two_out fits 5 x y u refl (λ p q G T i l m k. then i l m k)
  assembled_out (Repeat x) u fits = one_out fits 6 0 x u refl (λ q G T i j m. repeat i m)
  assembled_out (Notify x A) u fits = one_out fits 7 A x u refl (λ q G T i j m. notify i j m)
  assembled_out (Try x y) u fits = two_out fits 8 x y u refl (λ p q G T i l m k. try i l m k)

-- ---- record r of n that name earlier ones

module _ (node : ℕ → Node) (n : ℕ) (earlier : Earlier node n) where
  written_out_lem : (f r : ℕ) → r < f → r < n → (w : Written) → Fits (expr node r) w → Out (expr node r) w (written_out node f r w)
  unfolding written_out
  written_out_lem zero r h l w fits = absurd (omega arith)
  written_out_lem (suc f) r h l w fits =
      let q = expr_step n node earlier r l in
      rw q
      (assembled_out (expr node) (written_out node f) r (λ x g v room. written_out_lem f x (omega arith) (omega arith) v room) w (node r) (earlier r l)
      (rw q at fits))

pub room_out : {node : ℕ → Node} {n r : ℕ} {w : Written} → Room node n r w → (f : ℕ) → r < f → Out (expr node r) w (written_out node f r w)
room_out {node} {n} {r} {w} room f h =
    written_out_lem node n room.earlier f r h room.within w
    (record { room = room.room; nodes_long = room.nodes_long; sets_long = room.sets_long })

-- ---- whatever is written out, the lists keep their lengths

-- v's lists are as long as w's
abbrev pub LongAs : Written → Written → Type 0
LongAs w v = (length v.nodes ≡ length w.nodes) × (length v.sets ≡ length w.sets)

put_long : (w v : Written) (kind x A : ℕ) → LongAs w v → LongAs w (put v kind x A)
put_long w v kind x A l = (length-set v.nodes v.count (packed kind x) ∙ l.0, length-set v.sets v.count A ∙ l.1)

module _ (go : ℕ → Written → Written) (keeps : (x : ℕ) (w : Written) → LongAs w (go x w)) where
  both_long : (x y : ℕ) (w : Written) → LongAs w (go y (go x w))
  both_long x y w = let k = keeps x w in let l = keeps y (go x w) in (l.0 ∙ k.0, l.1 ∙ k.1)

  assembled_long : (m : Node) (w : Written) → LongAs w (assembled go m w)
  assembled_long Silent w = put_long w w 1 0 0 (refl, refl)
  assembled_long (Event b) w = put_long w w 2 b 0 (refl, refl)
  assembled_long (Not x) w = put_long w (go x w) 3 _ 0 (keeps x w)
  assembled_long (Either x y) w = put_long w (go y (go x w)) 4 _ 0 (both_long x y w)
  assembled_long (Then x y) w = put_long w (go y (go x w)) 5 _ 0 (both_long x y w)
  assembled_long (Repeat x) w = put_long w (go x w) 6 _ 0 (keeps x w)
  assembled_long (Notify x A) w = put_long w (go x w) 7 _ A (keeps x w)
  assembled_long (Try x y) w = put_long w (go y (go x w)) 8 _ 0 (both_long x y w)

pub written_out_long : (node : ℕ → Node) (f r : ℕ) (w : Written) → LongAs w (written_out node f r w)
unfolding written_out
written_out_long node zero r w = (refl, refl)
written_out_long node (suc f) r w = assembled_long (written_out node f) (written_out_long node f) (node r) w
