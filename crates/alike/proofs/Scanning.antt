-- From the entries of one event's list to the closing conditions, and from the first fault among them to the verdict one event further.
use Prim.Native.Nat.{ℕ, ◌+◌, ◌<◌, ◌≤◌}
use mathlib.Core.Path.{◌≡◌, sym, ap, ◌∙◌}
use mathlib.Core.Logic.{inl, inr}
use mathlib.Core.List.{List}
use native.Mathlib.Omega.{arith}
use lib.ListN.{length}
use Rattle.std.specs.Prelude.{None}
use Rattle.par.specs.declared.Node.{Node}
use Rattle.par.specs.Expr.{Expr}
use Rattle.par.specs.Status.{status_byte}
use Rattle.par.specs.Step.{status, notices}
use Rattle.par.proofs.Records.{one_record}
use Rattle.alike.specs.declared.pair.Pair.{Pair}
use Rattle.alike.specs.declared.plans.Part.{Part}
use Rattle.alike.specs.declared.entry.Entry.{Entry}
use Rattle.alike.specs.Closing.{Fault.notices_differ, Fault.statuses_differ, Fault.not_in_file, Fault.not_listed}
use Rattle.alike.specs.Tables.{record_of, expressions, pair, left_in, right_in, Held, Within}
use Rattle.alike.specs.Lookup.{Lists}
use Rattle.alike.specs.List.{Right, Filled}
use Rattle.alike.specs.Settled.{ListedRow, Standing, RowPart, Scanned, Scanned.as_before, Scanned.better}
use Rattle.alike.specs.Settled.{PartFault, PartFault.notices_apart, PartFault.statuses_apart, PartFault.one_missing}
use Rattle.alike.specs.Settled.{PartFault.unlisted, PartFault.all_met}
use Rattle.alike.specs.Verdict.{Outcome, first_fault}
use Rattle.alike.proofs.Faults.{Met, status_one, placed_absent, placed_stands}
use Rattle.alike.proofs.Settling.{met_fault, settled_same, settled_fault, first_settled, settled_one}

-- ---- a pair that is listed, by its two records

pub lists_row : (ps : List Pair) (p q : ℕ) → Lists ps (pair p q) → ListedRow (left_in ps) (right_in ps) (length ps) p q
lists_row ps p q l = (l.0, l.1, ap (λ (a : Pair). a.left) l.2, ap (λ (a : Pair). a.right) l.2)

pub row_lists : (ps : List Pair) (p q : ℕ) → ListedRow (left_in ps) (right_in ps) (length ps) p q → Lists ps (pair p q)
row_lists ps p q l = (l.0, l.1, λ i. record { left = l.2 i; right = l.3 i })

-- the same of a pair, however its two numbers are given
pub row_asked : (ps : List Pair) {l r p q : ℕ} → ListedRow (left_in ps) (right_in ps) (length ps) p q → l ≡ p → r ≡ q → Lists ps (pair l r)
row_asked ps {l} {r} {p} {q} h i j = rw (i, j) (row_lists ps p q h)

pub asked_row : (ps : List Pair) {l r p q : ℕ} → Lists ps (pair l r) → l ≡ p → r ≡ q → ListedRow (left_in ps) (right_in ps) (length ps) p q
asked_row ps {l} {r} {p} {q} h i j = lists_row ps p q (rw (i, j) at h)

-- ---- the second of two entries whose remainder is not in the file

pub right_missing : {Listed : ℕ → ℕ → Type 0} {p q : Part} → p.notices ≡ q.notices → status_byte p.status ≡ status_byte q.status
    → q.remains ≡ None → PartFault Listed p q 12
right_missing h e z = one_missing h (status_one _ _ e) (inr z)

-- ---- two entries that are what the figures give

module _ {E : ℕ → Expr} {n : ℕ} {d e : Expr} {a : ℕ} {p q : Part} (f : Right E n a d p) (g : Right E n a e q) where
  notices_to : p.notices ≡ q.notices → notices d a ≡ notices e a
  notices_to h = sym f.notices_right ∙ h ∙ g.notices_right

  status_to : p.status ≡ q.status → status d a ≡ status e a
  status_to h = sym f.status_right ∙ h ∙ g.status_right

  pub part_met : {Listed : ℕ → ℕ → Type 0} {k : ℕ} → PartFault Listed p q k → Met E n Listed d e a k
  part_met (notices_apart h) = notices_differ (λ i. h (f.notices_right ∙ i ∙ sym g.notices_right))
  part_met (statuses_apart i h) = statuses_differ (notices_to i) (λ j. h (f.status_right ∙ j ∙ sym g.status_right))
  part_met (one_missing i j (inl h)) = not_in_file (notices_to i) (status_to j) (inl (placed_absent f.remains_right h))
  part_met (one_missing i j (inr h)) = not_in_file (notices_to i) (status_to j) (inr (placed_absent g.remains_right h))
  part_met (unlisted h h' s t u v) =
      not_listed (notices_to h) (status_to h') (placed_stands f.remains_right s) (placed_stands g.remains_right t) u v
  part_met (all_met h h' {i} {j} s t r) =
      record {
        same_notices = notices_to h;
        same_status = status_to h';
        p = i;
        q = j;
        left_stands = placed_stands f.remains_right s;
        right_stands = placed_stands g.remains_right t;
        related = r;
      }

-- ---- the verdict one event further

module _ (ns : List Node) (ps : List Pair) {a : ℕ} (parts : List Entry) (w : Within (length ns) ps)
    (filled : Filled (expressions ns) (length ns) a parts (length ns)) where
  row_met : (i k : ℕ) → i < length ps → RowPart parts ps i k
      → Met (expressions ns) (length ns) (ListedRow (left_in ps) (right_in ps) (length ps))
      (expressions ns (left_in ps i)) (expressions ns (right_in ps i)) a k
  row_met i k h f = part_met (filled (left_in ps i) (w.inside i h).0) (filled (right_in ps i) (w.inside i h).1) f

  pub scanned_settled : {best r : Outcome} → Standing ns ps a best → best.pair ≤ length ps → Scanned (RowPart parts ps) best r
      → Standing ns ps (a + 1) r
  scanned_settled v l (as_before none) = settled_same v (λ j h. row_met j 0 (omega arith) (none j h))
  scanned_settled v l (better {i} {k} h none f z) =
      settled_fault v i h (λ j g. row_met j 0 (omega arith) (none j g)) (met_fault k z (row_met i k (omega arith) f))

-- ---- the verdict on all events

-- the same event, however its number is given
pub standing_at : (ns : List Node) (ps : List Pair) {a b : ℕ} {r : Outcome} → Standing ns ps b r → b ≡ a → Standing ns ps a r
standing_at ns ps v e = rw e at v

pub standing_first : (ns : List Node) (ps : List Pair) {r : Outcome} → Held ns → Standing ns ps 256 r
    → r ≡ first_fault (expressions ns) (length ns) (left_in ps) (right_in ps) (length ps)
standing_first ns ps held v =
    let e =
    settled_one (one_record (length ns) (record_of ns) held.file) v
    (first_settled (expressions ns) (length ns) (left_in ps) (right_in ps) (length ps)) in
    λ i. record { number = e.0 i; pair = e.1 i }
