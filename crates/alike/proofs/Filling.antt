-- The list for one event. `filled_more`: where the entries before record r are right, so is that of r, made from its plan. `filled_one`: what is right in
-- every entry is one list.
use Prim.Native.Nat.{ℕ, ◌+◌, ◌%◌, ◌<◌, ◌≤◌}
use mathlib.Core.Path.{◌≡◌, refl, sym, ap, ◌∙◌}
use mathlib.Core.List.{List}
use native.Mathlib.Omega.{arith}
use borrow.Author.Count.{below_more}
use lib.ListN.{length, set}
use lib.Seq.{get_or-set_same, get_or-set_other}
use Rattle.std.specs.Prelude.{Option, Some, None}
use Rattle.std.specs.Option.{option_map}
use Rattle.par.specs.declared.Node.{Node}
use Rattle.par.specs.declared.Node.TheVariants.{Silent}
use Rattle.par.specs.Expr.{Expr}
use Rattle.par.proofs.Records.{Match.m_silent}
use Rattle.alike.specs.declared.plans.Part.{Part}
use Rattle.alike.specs.declared.entry.Entry.{Entry}
use Rattle.alike.specs.declared.plans.Plan.{Plan}
use Rattle.alike.specs.Tables.{record_of, expressions, Held}
use Rattle.alike.specs.Lookup.{Looked}
use Rattle.alike.specs.Plans.{plan_of}
use Rattle.alike.specs.List.{Fits, entry_of, part, part_of, RestAt, Placed, Placed.there, Placed.missing, Right, Filled}
use Rattle.alike.proofs.Placing.{placed_one, looked_placed}
use Rattle.alike.proofs.Answering.{answered, planned_right}

-- ---- an entry that is written

entry_more : {E : ℕ → Expr} {n a : ℕ} (parts : List Entry) (r : ℕ) (e : Entry) → r < length parts → Filled E n a parts r
    → Right E n a (E r) (part e) → Filled E n a (set parts r e) (r + 1)
entry_more {E} {n} {a} parts r e h filled is =
    below_more (λ i. Right E n a (E i) (part_of (set parts r e) i)) r
    (λ i l. rw (get_or-set_other parts r i e _ (λ k. omega arith)) (filled i l))
    (rw (get_or-set_same parts r e _ h) is)

-- the number of a record, if it is one, fits in an entry: a file has few
placed_fits : {E : ℕ → Expr} {n : ℕ} {e : Expr} {q : Option ℕ} → n ≤ 1024 → Placed E n e q → Fits q
placed_fits few (there at) = omega (arith, at.0)
placed_fits few (missing at) = tt

fits_same : (q : Option ℕ) → Fits q → option_map (λ r. r % 65536) q ≡ q
fits_same None h = refl
fits_same (Some r) h = ap Some (omega (arith, h))

-- the entry of an answer whose remainder fits stands for it
pub entry_stands : (p : Part) → Fits p.remains → part (entry_of p) ≡ p
entry_stands p h = λ i. record { notices = p.notices; status = p.status; remains = fits_same p.remains h i }

-- the turn for record r: its plan is made from the entries before it, its remainder is placed, and its entry is written
pub filled_more : {ns : List Node} {a r : ℕ} (parts : List Entry) (still : Option ℕ) {plan : Plan} (q : Option ℕ) (e : Entry) → Held ns
    → r < length ns → r < length parts → Filled (expressions ns) (length ns) a parts r → Looked ns Silent still
    → plan ≡ plan_of (part_of parts) a r (record_of ns r) → RestAt ns still plan.rest q
    → (Fits q → part e ≡ answered plan q) → Filled (expressions ns) (length ns) a (set parts r e) (r + 1)
filled_more {ns} {a} {r} parts still {plan} q e held h room filled silent plan_is rest stands =
    let right : Right (expressions ns) (length ns) a (expressions ns r) (answered plan q) =
    rw plan_is (planned_right held (looked_placed held still m_silent silent) parts r h filled (rw plan_is at rest)) in
    entry_more parts r e room filled (rw (stands (placed_fits held.few right.remains_right)) right)

-- ---- one list only

module _ {ns : List Node} (held : Held ns) where
  pub right_one : {a : ℕ} {e : Expr} {p q : Part} → Right (expressions ns) (length ns) a e p → Right (expressions ns) (length ns) a e q → p ≡ q
  right_one u v =
      let notices = u.notices_right ∙ sym v.notices_right in
      let status = u.status_right ∙ sym v.status_right in
      let remains = placed_one held u.remains_right v.remains_right in
      λ i. record { notices = notices i; status = status i; remains = remains i }

  pub filled_one : (a : ℕ) (parts parts' : List Entry) → Filled (expressions ns) (length ns) a parts (length ns)
      → Filled (expressions ns) (length ns) a parts' (length ns) → (r : ℕ) → r < length ns → part_of parts r ≡ part_of parts' r
  filled_one a parts parts' u v r h = right_one (u r h) (v r h)
