-- What this crate promises beside its contracts, each theorem whole, with the file that proves it cited. Assumes nothing: there is no axiom in the crate.
use Prim.Native.Nat.{ℕ, ◌≤◌}
use mathlib.Core.Path.{◌≡◌, sym, ◌∙◌}
use mathlib.Core.List.{List}
use lib.ListN.{length}
use Rattle.engine.specs.declared.Desk.{Desk}
use Rattle.engine.specs.Feed.{Fed}
use Rattle.engine.specs.Mirror.Desk.{empty_desk, opened_of, stepped_of}
use Rattle.engine.proofs.Runs.{fed_one}
use Rattle.alike.specs.Verdict.{judged, shown_of}
use Rattle.printout.specs.Text.{text}
use Rattle.printout.specs.Printed.{PrintedAs}
use Rattle.printout.proofs.Outputs.{printed_one}
use Rattle.meadwhistle.specs.declared.Ran.{Ran}
use Rattle.meadwhistle.specs.declared.FlatReply.{FlatReply}
use Rattle.meadwhistle.specs.declared.Part.{Part}
use Rattle.meadwhistle.specs.Flat.{flat_reply}
use Rattle.meadwhistle.specs.Part.{part_of, file_in, cut_at}
use Rattle.meadwhistle.proofs.Parts

-- ---- The part that `meadwhistle_shown` names is what `alike::shown` shows

pub part_shown : (es ps : List ℕ) → cut_at (part_of (judged es ps)) es ps ≡ shown_of es ps
part_shown = Parts.part_shown

-- It begins within its file, or at its end.
pub part_inside : (es ps : List ℕ) → (part_of (judged es ps)).place ≤ length (file_in (part_of (judged es ps)) es ps)
part_inside = Parts.part_inside

-- ---- Each exported contract is met by one outcome: what is returned, and what is left in the buffer or the desk that was lent

-- two that meet one equation
one : {A : Type 0} {x r r' : A} → r ≡ x → r' ≡ x → r ≡ r'
one p q = p ∙ sym q

pub run_one : (rule events : List ℕ) (place : ℕ) (answers : List ℕ) {r r' : Ran} {b b' : List ℕ}
    → Fed rule events place answers r.number r.written b → Fed rule events place answers r'.number r'.written b' → (r ≡ r') × (b ≡ b')
run_one rule events place answers p q =
    let o = fed_one p q in
    (λ i. record { number = o.0 i; written = o.1 i }, o.2)

pub desk_empty_one : {r r' : Desk} → r ≡ empty_desk → r' ≡ empty_desk → r ≡ r'
desk_empty_one = one

pub desk_open_one : (d : Desk) (rule : List ℕ) {r r' : ℕ} {e e' : Desk} → (r ≡ (opened_of d rule).number) × (e ≡ (opened_of d rule).desk)
    → (r' ≡ (opened_of d rule).number) × (e' ≡ (opened_of d rule).desk) → (r ≡ r') × (e ≡ e')
desk_open_one d rule p q = (one p.0 q.0, one p.1 q.1)

pub desk_step_one : (d : Desk) (event : ℕ) {r r' : FlatReply} {e e' : Desk}
    → (r ≡ flat_reply (stepped_of d event).reply) × (e ≡ (stepped_of d event).desk)
    → (r' ≡ flat_reply (stepped_of d event).reply) × (e' ≡ (stepped_of d event).desk) → (r ≡ r') × (e ≡ e')
desk_step_one d event p q = (one p.0 q.0, one p.1 q.1)

pub judge_one : (es ps : List ℕ) {r r' : ℕ} → r ≡ (judged es ps).number → r' ≡ (judged es ps).number → r ≡ r'
judge_one es ps = one

pub shown_one : (es ps : List ℕ) {r r' : Part} → r ≡ part_of (judged es ps) → r' ≡ part_of (judged es ps) → r ≡ r'
shown_one es ps = one

pub print_one : (input output : List ℕ) {r r' : ℕ} {l l' : List ℕ} → PrintedAs (text input) output r l → PrintedAs (text input) output r' l'
    → (r ≡ r') × (l ≡ l')
print_one input output = printed_one
