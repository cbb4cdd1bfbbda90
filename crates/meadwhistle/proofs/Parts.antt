-- The part that is named: its bytes are those that `alike::shown` shows, and it begins within its file, so that a caller may cut there.
use Prim.Native.Nat.{ℕ, ◌<◌, ◌≤◌}
use mathlib.Core.Path.{◌≡◌, refl}
use mathlib.Core.Bool.{Bool, true, false, cond}
use mathlib.Core.List.{List, [], ◌∷◌, ◌++◌}
use native.Mathlib.Omega.{arith}
use borrow.Author.Count.{below_more}
use lib.Dec.{eqb}
use lib.ListN.{length, get_or, drop, length-append, get_or-append}
use lib.Seq.{get_or-append_seam}
use Rattle.records.specs.declared.Contents.{Contents}
use Rattle.records.specs.declared.Contents.TheVariants.{Pairs}
use Rattle.records.specs.Walk.{Found}
use Rattle.records.specs.Says.{Sound, Sound.start, Sound.passed, Sound.counted}
use Rattle.records.specs.Says.{Says as Reads, Says.accepted as r_accepted, Says.empty as r_empty, Says.refused as r_refused, Says.body_refused as r_body}
use Rattle.records.proofs.Says.{stands_onward}
use Rattle.files.specs.Reading.{PairBody}
use Rattle.files.proofs.Readings.{reading_within, reading_pairs_says, reading_pairs_within}
use Rattle.alike.specs.Proposal.{records, listing, Verdict}
use Rattle.alike.specs.Proposal.{Says, Says.expressions_at_fault, Says.pairs_at_fault, Says.pair_at_fault, Says.accepted}
use Rattle.alike.specs.Verdict.{judged, shown_of}
use Rattle.alike.proofs.Judging.{judged_says}
use Rattle.meadwhistle.specs.Part.{part_of, file_in, cut_at}

-- ---- what is shown

cut_either : (b : Bool) (place : ℕ) (es ps : List ℕ) → drop place (cond (eqb (cond b 1 0) 1) ps es) ≡ cond b (drop place ps) (drop place es)
cut_either true place es ps = refl
cut_either false place es ps = refl

pub part_shown : (es ps : List ℕ) → cut_at (part_of (judged es ps)) es ps ≡ shown_of es ps
unfolding shown_of
part_shown es ps = cut_either (judged es ps).in_pairs (judged es ps).place es ps

-- ---- it begins within its file: so does every record that reading finds, and every fault

module _ (s : List ℕ) (contents : Contents) (Body : ℕ → List ℕ → ℕ → Type 0) where
  sound_inside : {ps : List ℕ} {pos : ℕ} → Sound s contents Body ps pos → (i : ℕ) → i < length ps → get_or ps i 0 ≤ length s
  sound_inside start i h = absurd (omega arith)
  sound_inside (passed before stands) i h = sound_inside before i h
  sound_inside (counted {ps} {pos} before stands fine) i h =
      let onward = stands_onward stands in
      below_more (λ i. get_or (ps ++ (pos ∷ [])) i 0 ≤ length s) (length ps)
      (λ i l. rw (get_or-append ps (pos ∷ []) 0 i l) (sound_inside before i l))
      (rw (get_or-append_seam ps pos [] 0) (omega arith))
      i (rw length-append at h)

  record_inside : {f : Found} → Reads s contents Body f → (i : ℕ) → i < length f.places → get_or f.places i 0 ≤ length s
  record_inside (r_accepted before stands some) = sound_inside before
  record_inside (r_empty before stands) = sound_inside before
  record_inside (r_refused before stands e) = sound_inside before
  record_inside (r_body before stands fault) = sound_inside before

verdict_inside : (es ps : List ℕ) {v : Verdict} → Says es ps v → v.place ≤ length (file_in (part_of v) es ps)
unfolding listing
verdict_inside es ps (expressions_at_fault e) = (reading_within es).0
verdict_inside es ps (pairs_at_fault e p) = (reading_pairs_within ps (records es)).0
verdict_inside es ps (pair_at_fault e p fault) =
    rw fault.place_is (record_inside ps Pairs (PairBody ps (records es)) (reading_pairs_says ps (records es)) fault.pair fault.inside)
verdict_inside es ps (accepted a) = omega arith

pub part_inside : (es ps : List ℕ) → (part_of (judged es ps)).place ≤ length (file_in (part_of (judged es ps)) es ps)
part_inside es ps = verdict_inside es ps (judged_says es ps)
