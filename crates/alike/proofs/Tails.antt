-- What is shown is the tail of one of the files.
use Prim.Native.Nat.{ℕ}
use mathlib.Core.Path.{◌≡◌, refl, sym, ◌∙◌}
use mathlib.Core.List.{List, []}
use mathlib.Core.Bool.{true, false}
use native.Mathlib.Omega.{arith}
use lib.ListN.{length, drop, drop_of_length-le}
use Rattle.alike.specs.Proposal.{Verdict, Says.accepted}
use Rattle.alike.specs.Verdict.{judged, shown_of}
use Rattle.alike.proofs.Judging.{says_judged, zero_exactly}

-- what is shown, by the file that holds it
module _ (es ps : List ℕ) {v : Verdict} (e : v ≡ judged es ps) where
  pub shown_pairs : v.in_pairs ≡ true → drop v.place ps ≡ shown_of es ps
  unfolding shown_of
  shown_pairs i = rw (← e, i)

  pub shown_expressions : v.in_pairs ≡ false → drop v.place es ≡ shown_of es ps
  unfolding shown_of
  shown_expressions i = rw (← e, i)

-- on acceptance nothing is: the empty tail at the pair file's end
pub accepted_shown : (es ps : List ℕ) → (judged es ps).number ≡ 0 → shown_of es ps ≡ []
accepted_shown es ps e =
    sym (shown_pairs es ps (says_judged es ps (accepted ((zero_exactly es ps).0 e))) refl) ∙ drop_of_length-le ps {i = length ps} (omega arith)
