-- What this crate promises beside its contracts, each theorem whole, with the file that proves it cited. Assumes nothing: there is no axiom in the
-- crate. es is an expression file, ps a pair file, as bytes; `judged es ps` is what `verdict_of`, `judge` and `shown` answer by their contracts.
use Prim.Native.Nat.{ℕ, ◌<◌, ◌≤◌}
use mathlib.Core.Path.{◌≡◌, sym}
use mathlib.Core.Logic.{◌↔◌}
use mathlib.Core.List.{List, []}
use mathlib.Core.Bool.{Bool}
use Rattle.par.specs.Expr.{Expr}
use Rattle.par.specs.Figures.{Completes, Becomes, Sends}
use Rattle.par.specs.Like.{Like, Swapped}
use Rattle.par.specs.Throughout.{Unnamed}
use Rattle.par.proofs.Figure3.{figure_3}
use Rattle.par.proofs.Figure4.{figure_4}
use Rattle.par.proofs.Figure5.{figure_5}
use Rattle.files.specs.Rule.{expr_of}
use Rattle.files.proofs.Bodies.{Tells}
use Rattle.alike.specs.declared.Judged.{Judged}
use Rattle.alike.specs.declared.verdict.Fault.{Fault as Found}
use Rattle.alike.specs.Told.{told}
use Rattle.alike.specs.Outcome.{outcome_of}
use Rattle.std.specs.Prelude.{Option}
use Rattle.alike.specs.Closing.{Closed, Fault}
use Rattle.alike.specs.Proposal.{pairs, left_of, right_of, Accepted, Verdict, Says}
use Rattle.par.specs.declared.Node.{Node}
use Rattle.alike.specs.declared.entry.Entry.{Entry}
use Rattle.alike.specs.Tables.{expressions, Held}
use lib.ListN.{length}
use Rattle.alike.specs.List.{part_of, Placed, Filled}
use Rattle.alike.specs.Verdict.{fault_of, judged, shown_of}
use Rattle.alike.proofs.Faults.{Met}
use Rattle.alike.proofs.Faults
use Rattle.alike.proofs.Quiet as quiet
use Rattle.alike.proofs.Filling
use Rattle.alike.proofs.Judging
use Rattle.alike.proofs.Tails
use Rattle.alike.proofs.AcceptedAlike

-- ---- The verdict on any two files is what document 01 says, in its order, and nothing else is

pub judged_says : (es ps : List ℕ) → Says es ps (judged es ps)
judged_says = Judging.judged_says

pub says_one : (es ps : List ℕ) (v w : Verdict) → Says es ps v → Says es ps w → v ≡ w
says_one es ps v w = Judging.says_one es ps

pub judged_number : (es ps : List ℕ) → (judged es ps).number ≤ 14
judged_number = Judging.judged_number

-- The contracts of `verdict_of` and of `verdict::first_fault` determine their answers.
pub told_one : (j k : Judged) → told j ≡ told k → j ≡ k
told_one = Judging.told_one

pub first_one : (m : ℕ) (f g : Option Found) → outcome_of f m ≡ outcome_of g m → f ≡ g
first_one = Judging.first_one

-- 0 exactly where both files are read without fault and every pair is closed on every event; then the empty tail is shown.
pub zero_exactly : (es ps : List ℕ) → ((judged es ps).number ≡ 0) ↔ Accepted es ps
zero_exactly = Judging.zero_exactly

pub accepted_shown : (es ps : List ℕ) → (judged es ps).number ≡ 0 → shown_of es ps ≡ []
accepted_shown = Tails.accepted_shown

-- ---- Demand 3: the two expressions of an accepted claim behave alike, and one may be held for the other anywhere

pub accepted_like : (es ps : List ℕ) → (judged es ps).number ≡ 0 → Like (expr_of es (left_of es ps 0)) (expr_of es (right_of es ps 0))
accepted_like = AcceptedAlike.accepted_like

pub accepted_swapped : (es ps : List ℕ) → (judged es ps).number ≡ 0
    → {u v : Expr} → Swapped (expr_of es (left_of es ps 0)) (expr_of es (right_of es ps 0)) u v → Like u v
accepted_swapped = AcceptedAlike.accepted_swapped

-- So do those of every listed pair.
pub pairs_like : (es ps : List ℕ) → (judged es ps).number ≡ 0 → (i : ℕ) → i < pairs es ps
    → Like (expr_of es (left_of es ps i)) (expr_of es (right_of es ps i))
pairs_like = AcceptedAlike.pairs_like

-- ---- A pair on an event is closed, or has one fault, over any records of which no two are equal

pub fault_is : (E : ℕ → Expr) (n : ℕ) (Listed : ℕ → ℕ → Type 0) (lists : ℕ → ℕ → Bool)
    → ((p q : ℕ) → Tells (Listed p q) (lists p q)) → (d e : Expr) (a : ℕ) → Met E n Listed d e a (fault_of E n lists d e a)
fault_is = Faults.fault_is

pub fault_one : (E : ℕ → Expr) (n : ℕ) (Listed : ℕ → ℕ → Type 0) (d e : Expr) (a k m : ℕ)
    → Fault E n Listed d e a k → Fault E n Listed d e a m → k ≡ m
fault_one E n Listed d e a k m = Faults.fault_one

pub closed_faultless : (E : ℕ → Expr) (n : ℕ) → ((i j : ℕ) → i < n → j < n → E i ≡ E j → i ≡ j) → (Listed : ℕ → ℕ → Type 0) (d e : Expr) (a k : ℕ)
    → Closed E n Listed d e a → Fault E n Listed d e a k → ⊥
closed_faultless E n one Listed d e a k = Faults.closed_faultless E n one

-- ---- Events that no record names are answered alike, so that one of them is enough

pub closed_alike : (E : ℕ → Expr) (n : ℕ) (Listed : ℕ → ℕ → Type 0) (a b : ℕ)
    → ((r : ℕ) → r < n → Unnamed a (E r)) → ((r : ℕ) → r < n → Unnamed b (E r))
    → (p q : ℕ) → p < n → q < n → Closed E n Listed (E p) (E q) a ↔ Closed E n Listed (E p) (E q) b
closed_alike = quiet.closed_alike

pub fault_alike : (E : ℕ → Expr) (n : ℕ) (Listed : ℕ → ℕ → Type 0) (a b : ℕ)
    → ((r : ℕ) → r < n → Unnamed a (E r)) → ((r : ℕ) → r < n → Unnamed b (E r))
    → (p q k : ℕ) → p < n → q < n → Fault E n Listed (E p) (E q) a k ↔ Fault E n Listed (E p) (E q) b k
fault_alike = quiet.fault_alike

-- ---- The list for one event: each entry is what the figures give for its record, and no other list would do

pub entry_figures : (E : ℕ → Expr) (n a : ℕ) (parts : List Entry) → Filled E n a parts n → (r : ℕ) → r < n
    → Sends (E r) a (part_of parts r).notices × Completes (E r) a (part_of parts r).status
    × ((x : Expr) → Becomes (E r) a x → Placed E n x (part_of parts r).remains)
entry_figures E n a parts filled r h =
    let right = filled r h in (
      (figure_5 (E r) a (part_of parts r).notices).1 (sym right.notices_right),
      (figure_3 (E r) a (part_of parts r).status).1 (sym right.status_right),
      λ x b. rw ((figure_4 (E r) a x).0 b) at right.remains_right,
    )

pub filled_one : (ns : List Node) → Held ns → (a : ℕ) (parts parts' : List Entry)
    → Filled (expressions ns) (length ns) a parts (length ns) → Filled (expressions ns) (length ns) a parts' (length ns)
    → (r : ℕ) → r < length ns → part_of parts r ≡ part_of parts' r
filled_one ns held = Filling.filled_one held
