-- What writing a record out asks of its calls, by its construct, and that what they write is the record written out.
use Prim.Native.Nat.{ℕ, zero, suc, ◌+◌, ◌≤◌, ◌<◌}
use mathlib.Core.Path.{◌≡◌, refl, sym, ap, ◌∙◌}
use mathlib.Core.Logic.{◌⊎◌, inl, inr}
use native.Mathlib.Omega.{arith}
use lib.ListN.{length}
use Rattle.par.specs.declared.Node.{Node}
use Rattle.par.specs.declared.Node.TheVariants.{Silent, Event, Not, Either, Then, Repeat, Notify, Try}
use Rattle.par.specs.Expr.{size}
use Rattle.par.specs.Records.{grow, Parts, expr}
use Rattle.par.proofs.Records.{expr_step}
use Rattle.ready.specs.declared.writing.Written.{Written}
use Rattle.par.specs.Nodes.{kind_field}
use Rattle.ready.specs.Mirror.WrittenOut.{put, last, assembled, written_out, Writes, Room}
use Rattle.ready.proofs.Written.{Out, size_some, room_out}

-- a part that is written out behind w: an earlier record, room to write it out, and room for one node more
pub record Part (node : ℕ → Node) (n r : ℕ) (w : Written) (x : ℕ) : Type 0 where
  pub less : x < r
  pub room : Room node n x w
  pub put : {v : Written} → Writes node x w v → (w.count < v.count) × (v.count < 64)

-- the construct m with one part, and one with two
pub record One (node : ℕ → Node) (n r : ℕ) (w : Written) (m : Node) (x A : ℕ) : Type 0 where
  pub part : Part node n r w x
  pub done : {u v : Written} → Writes node x w u → v ≡ put u (kind_field m) (last u) A → Writes node r w v

pub record Two (node : ℕ → Node) (n r : ℕ) (w : Written) (m : Node) (x y : ℕ) : Type 0 where
  pub first : Part node n r w x
  pub second : {u : Written} → Writes node x w u → Part node n r u y
  pub done : {u v z : Written} → Writes node x w u → Writes node y u v → z ≡ put v (kind_field m) (last u) 0 → Writes node r w z

module _ {node : ℕ → Node} {n r : ℕ} {w : Written} (room : Room node n r w) where
  pub room_put : w.count < 64
  room_put = let l = room.room in let some = size_some (expr node r) in omega arith

  out_by : {v : Written} → Writes node r w v → Out (expr node r) w v
  out_by s = rw (s (suc r) (omega arith)) (room_out room (suc r) (omega arith))

module _ {node : ℕ → Node} {n r : ℕ} {w : Written} (room : Room node n r w) where
  part_of : {v : Written} {x : ℕ} → x < r → v.count + size (expr node x) < 64 → length v.nodes ≡ 64 → length v.sets ≡ 64 → Part node n r v x
  part_of {v} {x} h l long long' =
      let inside = room.within in
      let at : Room node n x v = record { within = omega arith; earlier = room.earlier; room = omega arith; nodes_long = long; sets_long = long' } in
      record {
        less = h;
        room = at;
        put = λ s.
            let is = (out_by at s).count in
            let some = size_some (expr node x) in
            (omega arith, omega arith);
      }

  module _ {m : Node} (is : m ≡ node r) where
    named : Parts (λ p. p < r) m
    named = rw is (room.earlier r room.within)

    sized : size (expr node r) ≡ size (grow (expr node) m)
    sized = ap size (expr_step n node room.earlier r room.within ∙ ap (grow (expr node)) (sym is))

    pub written : {v : Written} → ((f : ℕ) → r ≤ f → v ≡ assembled (written_out node f) m w) → Writes node r w v
    unfolding written_out
    written g zero h = absurd (omega arith)
    written g (suc f) h = rw (← is) (g f (omega arith))

    one_with : {x A : ℕ} → x < r → size (expr node r) ≡ 1 + size (expr node x)
        → ((go : ℕ → Written → Written) → assembled go m w ≡ put (go x w) (kind_field m) (last (go x w)) A) → One node n r w m x A
    one_with h s e =
        let l = room.room in
        record {
          part = part_of h (omega arith) room.nodes_long room.sets_long;
          done = λ p q. written (λ f a. q ∙ rw (e (written_out node f), p f (omega arith)) refl);
        }

    two_with : {x y : ℕ} → (x < r) × (y < r) → size (expr node r) ≡ 1 + size (expr node x) + size (expr node y)
        → ((go : ℕ → Written → Written) → assembled go m w ≡ put (go y (go x w)) (kind_field m) (last (go x w)) 0) → Two node n r w m x y
    two_with {x} {y} h s e =
        let l = room.room in
        let a : Part node n r w x = part_of h.0 (omega arith) room.nodes_long room.sets_long in
        record {
          first = a;
          second = λ p.
              let o = out_by a.room p in
              let is = o.count in
              part_of h.1 (omega arith) (o.kept.nodes.long ∙ room.nodes_long) (o.kept.sets.long ∙ room.sets_long);
          done = λ p q t.
              let less = h in written (λ f b. t ∙ rw (e (written_out node f), ← p f (omega arith), ← q f (omega arith)) refl);
        }

  -- ---- by construct

  not_part : {x : ℕ} → Not x ≡ node r → One node n r w (Not x) x 0
  unfolding size
  not_part e = one_with e (named e) (sized e) (λ go. refl)

  repeat_part : {x : ℕ} → Repeat x ≡ node r → One node n r w (Repeat x) x 0
  unfolding size
  repeat_part e = one_with e (named e) (sized e) (λ go. refl)

  notify_part : {x A : ℕ} → Notify x A ≡ node r → One node n r w (Notify x A) x A
  unfolding size
  notify_part e = one_with e (named e) (sized e) (λ go. refl)

  either_parts : {x y : ℕ} → Either x y ≡ node r → Two node n r w (Either x y) x y
  unfolding size
  either_parts e = two_with e (named e) (sized e) (λ go. refl)

  then_parts : {x y : ℕ} → Then x y ≡ node r → Two node n r w (Then x y) x y
  unfolding size
  then_parts e = two_with e (named e) (sized e) (λ go. refl)

  try_parts : {x y : ℕ} → Try x y ≡ node r → Two node n r w (Try x y) x y
  unfolding size
  try_parts e = two_with e (named e) (sized e) (λ go. refl)

  module _ {m : Node} (is : m ≡ node r) where
    pub silent : m ≡ Silent → {v : Written} → v ≡ put w (kind_field m) 0 0 → Writes node r w v
    silent e h = written is (λ f l. h ∙ rw e refl)

    pub event : {b : ℕ} → m ≡ Event b → {v : Written} → v ≡ put w (kind_field m) b 0 → Writes node r w v
    event e h = written is (λ f l. h ∙ rw e refl)

    pub one : {x : ℕ} → (m ≡ Not x) ⊎ (m ≡ Repeat x) → One node n r w m x 0
    one (inl e) = rw e (not_part (sym e ∙ is))
    one (inr e) = rw e (repeat_part (sym e ∙ is))

    pub notify : {x A : ℕ} → m ≡ Notify x A → One node n r w m x A
    notify e = rw e (notify_part (sym e ∙ is))

    pub two : {x y : ℕ} → (m ≡ Either x y) ⊎ ((m ≡ Then x y) ⊎ (m ≡ Try x y)) → Two node n r w m x y
    two (inl e) = rw e (either_parts (sym e ∙ is))
    two (inr (inl e)) = rw e (then_parts (sym e ∙ is))
    two (inr (inr e)) = rw e (try_parts (sym e ∙ is))
