-- Events that no record of the file names are answered alike, so that one of them is enough.
use Prim.Native.Nat.{ℕ, zero, suc, ◌+◌, ◌<◌}
use mathlib.Core.Path.{◌≡◌, sym, ◌∙◌, ap}
use lib.ListN.{length}
use mathlib.Core.Logic.{◌≢◌, inl, inr, ◌↔◌}
use mathlib.Core.List.{List}
use mathlib.Core.Bool.{Bool, true, false, ◌||◌, not}
use native.Mathlib.Omega.{arith}
use Rattle.par.specs.declared.Node.{Node}
use Rattle.par.specs.declared.Node.TheVariants.{Silent, Event, Not, Either, Then, Repeat, Notify, Try}
use Rattle.par.specs.Expr.{Expr}
use Rattle.par.specs.Step.{status, notices, remainder}
use Rattle.par.specs.Throughout.{Unnamed}
use Rattle.par.specs.Records.{grow, Parts, expr, File}
use Rattle.par.proofs.Records.{parts_map, expr_step}
use Rattle.par.proofs.Unnamed.{unnamed_status, unnamed_notices, unnamed_same}
use Rattle.alike.specs.Closing.{Closed, Fault}
use Rattle.alike.specs.Closing.{Fault.notices_differ, Fault.statuses_differ, Fault.not_in_file, Fault.not_listed}
use Rattle.alike.specs.declared.pair.Pair.{Pair}
use Rattle.alike.specs.Tables.{record_of, expressions, Held, Within}
use Rattle.alike.specs.Settled.{ListedRow, Settled, Standing, NoneNames, Named, Named.named, Named.unnamed, Quiet, Quiet.not_yet, Quiet.passed}
use Rattle.alike.specs.Verdict.{Outcome}
use Rattle.alike.proofs.Settling.{settled_inside, settled_same}

-- ---- two events that are answered alike

pub record Same (x : Expr) (a b : ℕ) : Type 0 where
  pub same_status : status x a ≡ status x b
  pub same_notices : notices x a ≡ notices x b
  pub same_remainder : remainder x a ≡ remainder x b

pub unnamed_alike : (x : Expr) (a b : ℕ) → Unnamed a x → Unnamed b x → Same x a b
unnamed_alike x a b u v =
    record {
      same_status = unnamed_status x a u ∙ sym (unnamed_status x b v);
      same_notices = unnamed_notices x a u ∙ sym (unnamed_notices x b v);
      same_remainder = unnamed_same x a b u v;
    }

module _ {d e : Expr} {a b : ℕ} (s : Same d a b) (t : Same e a b) where
  notices_move : notices d a ≡ notices e a → notices d b ≡ notices e b
  notices_move h = sym s.same_notices ∙ h ∙ t.same_notices

  status_moves : status d a ≡ status e a → status d b ≡ status e b
  status_moves h = sym s.same_status ∙ h ∙ t.same_status

  closed_moves : {E : ℕ → Expr} {n : ℕ} {Listed : ℕ → ℕ → Type 0} → Closed E n Listed d e a → Closed E n Listed d e b
  closed_moves c =
      record {
        same_notices = notices_move c.same_notices;
        same_status = status_moves c.same_status;
        p = c.p;
        q = c.q;
        left_stands = (c.left_stands.0, c.left_stands.1 ∙ s.same_remainder);
        right_stands = (c.right_stands.0, c.right_stands.1 ∙ t.same_remainder);
        related = c.related;
      }

  fault_moves : {E : ℕ → Expr} {n : ℕ} {Listed : ℕ → ℕ → Type 0} {k : ℕ} → Fault E n Listed d e a k → Fault E n Listed d e b k
  fault_moves (notices_differ f) = notices_differ (λ h. f (s.same_notices ∙ h ∙ sym t.same_notices))
  fault_moves (statuses_differ g f) = statuses_differ (notices_move g) (λ h. f (s.same_status ∙ h ∙ sym t.same_status))
  fault_moves (not_in_file g h (inl w)) =
      not_in_file (notices_move g) (status_moves h) (inl (λ p l i. w p l (i ∙ sym s.same_remainder)))
  fault_moves (not_in_file g h (inr w)) =
      not_in_file (notices_move g) (status_moves h) (inr (λ p l i. w p l (i ∙ sym t.same_remainder)))
  fault_moves (not_listed g h x y i l) =
      not_listed (notices_move g) (status_moves h) (x.0, x.1 ∙ s.same_remainder) (y.0, y.1 ∙ t.same_remainder) i l

-- ---- the records of a file that does not name them

module _ (E : ℕ → Expr) (n : ℕ) (Listed : ℕ → ℕ → Type 0) (a b : ℕ)
    (u : (r : ℕ) → r < n → Unnamed a (E r)) (v : (r : ℕ) → r < n → Unnamed b (E r)) where
  pub record_alike : (r : ℕ) → r < n → Same (E r) a b
  record_alike r h = unnamed_alike (E r) a b (u r h) (v r h)

  record_back : (r : ℕ) → r < n → Same (E r) b a
  record_back r h = unnamed_alike (E r) b a (v r h) (u r h)

  pub closed_alike : (p q : ℕ) → p < n → q < n → Closed E n Listed (E p) (E q) a ↔ Closed E n Listed (E p) (E q) b
  closed_alike p q h l = (closed_moves (record_alike p h) (record_alike q l), closed_moves (record_back p h) (record_back q l))

  pub fault_alike : (p q k : ℕ) → p < n → q < n → Fault E n Listed (E p) (E q) a k ↔ Fault E n Listed (E p) (E q) b k
  fault_alike p q k h l = (fault_moves (record_alike p h) (record_alike q l), fault_moves (record_back p h) (record_back q l))

-- ---- a file names an event where a record is that event

grow_unnamed : (a : ℕ) (e : ℕ → Expr) (m : Node) → m ≢ Event a → Parts (λ p. Unnamed a (e p)) m → Unnamed a (grow e m)
grow_unnamed a e Silent n u = tt
grow_unnamed a e (Event b) n u = λ i. n (ap Event (sym i))
grow_unnamed a e (Not x) n u = u
grow_unnamed a e (Either x y) n u = u
grow_unnamed a e (Then x y) n u = u
grow_unnamed a e (Repeat x) n u = u
grow_unnamed a e (Notify x A) n u = (u, tt)
grow_unnamed a e (Try x y) n u = u

module _ (n : ℕ) (node : ℕ → Node) (file : File n node) (a : ℕ) (none : (r : ℕ) → r < n → node r ≢ Event a) where
  unnamed_below : (m r : ℕ) → r < m → r < n → Unnamed a (expr node r)
  unnamed_below zero r h w = absurd (omega arith)
  unnamed_below (suc m) r h w =
      rw (expr_step n node file.earlier r w)
      (grow_unnamed a (expr node) (node r) (none r w)
      (parts_map (λ p q. unnamed_below m p (omega arith) (omega arith)) (node r) (file.earlier r w)))

  pub file_unnamed : (r : ℕ) → r < n → Unnamed a (expr node r)
  file_unnamed r h = unnamed_below (suc r) r (omega arith) h

-- ---- the verdict, past an event that no record names, one such event being settled already

pub settled_skip : {E : ℕ → Expr} {n : ℕ} {left right : ℕ → ℕ} {m a k p : ℕ} → ((i : ℕ) → i < m → (left i < n) × (right i < n))
    → (b : ℕ) → b < a → ((r : ℕ) → r < n → Unnamed b (E r)) → ((r : ℕ) → r < n → Unnamed a (E r))
    → Settled E n left right m a k p → Settled E n left right m (a + 1) k p
settled_skip {E} {n} {left} {right} {m} {a} rows b l u w v =
    settled_same v (λ j h. let i = rows j (omega (arith, settled_inside v)) in
    (closed_alike E n (ListedRow left right m) b a u w (left j) (right j) i.0 i.1).0 (v.before j b h l))

-- ---- the records of which one is looked up as the event

pub looked_unnamed : (ns : List Node) → Held ns → (a : ℕ) → NoneNames ns (length ns) a → (r : ℕ) → r < length ns → Unnamed a (expressions ns r)
looked_unnamed ns h a none = file_unnamed (length ns) (record_of ns) h.file a none

pub quiet_skip : {ns : List Node} (ps : List Pair) {a : ℕ} (best : Outcome) → Held ns → Within (length ns) ps → Named ns (length ns) a false → Quiet ns a true
    → Standing ns ps a best → Standing ns ps (a + 1) best
quiet_skip {ns} ps {a} best held w (unnamed none) (passed {b} l none') v =
    settled_skip w.inside b l (looked_unnamed ns held b none') (looked_unnamed ns held a none) v

pub quiet_more : {ns : List Node} {a : ℕ} {known quiet : Bool} → Named ns (length ns) a known → Quiet ns a quiet → Quiet ns (a + 1) (quiet || not known)
quiet_more (named h e) not_yet = not_yet
quiet_more (named h e) (passed {b} l none) = passed {b = b} (omega arith) none
quiet_more {a = a} (unnamed none) not_yet = passed {b = a} (omega arith) none
quiet_more (unnamed none) (passed {b} l none') = passed {b = b} (omega arith) none'
