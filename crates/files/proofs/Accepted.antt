-- The records that reading finds before the end, or before the first fault: each names earlier ones, no two are equal, there are not too many of them,
-- and in a file of bytes their expressions are in range. For the pair file: each pair names two records of the expression file.
use Prim.Native.Nat.{ℕ, zero, suc, ◌+◌, ◌<◌, ◌≤◌}
use mathlib.Core.Path.{◌≡◌, refl, sym, ◌∙◌}
use mathlib.Core.Logic.{◌≢◌}
use mathlib.Core.List.{List, [], ◌∷◌, ◌++◌}
use native.Mathlib.Omega.{arith}
use borrow.Author.Count.{below_more}
use lib.ListN.{length, get_or, length-append, get_or-append}
use lib.Seq.{get_or-append_seam}
use Rattle.par.specs.declared.Node.{Node}
use Rattle.par.specs.declared.Node.TheVariants.{Silent, Event, Not, Either, Then, Repeat, Notify, Try}
use Rattle.par.specs.Expr.{Expr}
use Rattle.par.specs.Records.{grow, Parts, expr, File}
use Rattle.par.specs.Throughout.{Writable}
use Rattle.par.proofs.Records.{parts_map, expr_step}
use Rattle.records.specs.declared.Contents.{Contents}
use Rattle.records.specs.declared.Contents.TheVariants.{Expressions, Pairs}
use Rattle.records.specs.Fields.{word_at}
use Rattle.records.specs.Constructs.{InRange}
use Rattle.records.specs.Walk.{Found, found}
use Rattle.records.proofs.Refusals.{refusal_some}
use Rattle.records.specs.Says.{Sound, Sound.start, Sound.passed, Sound.counted}
use Rattle.records.specs.Says.{Says, Says.accepted, Says.empty, Says.refused, Says.body_refused}
use Rattle.records.proofs.Constructs.{node_range}
use Rattle.files.specs.Reading.{ExpressionBody, ExpressionBody.new, PairBody, PairBody.there, reading, reading_pairs}
use Rattle.files.specs.Rule.{node_in, expr_of}
use Rattle.files.proofs.Numbers.{with_number}
use Rattle.files.proofs.Readings.{reading_says, reading_within, reading_pairs_says, reading_pairs_within}

-- ---- a file with one record more

file_more : (n : ℕ) (node more : ℕ → Node) → File n node → ((r : ℕ) → r < n → more r ≡ node r) → Parts (λ p. p < n) (more n)
    → ((j : ℕ) → j < n → more j ≢ more n) → File (n + 1) more
file_more n node more file same parts fresh =
    record {
      earlier = below_more (λ r. Parts (λ p. p < r) (more r)) n (λ r h. rw (same r h) (file.earlier r h)) parts;
      distinct = λ i j h l e.
          below_more (λ i. (j : ℕ) → j < n + 1 → more i ≡ more j → i ≡ j) n
          (λ i h. below_more (λ j. more i ≡ more j → i ≡ j) n (λ j l e. file.distinct i j h l (sym (same i h) ∙ e ∙ same j l)) (λ e. absurd (fresh i h e)))
          (below_more (λ j. more n ≡ more j → n ≡ j) n (λ j l e. absurd (fresh j l (sym e))) (λ e. refl))
          i h j l e;
    }

sound_file : (s : List ℕ) {ps : List ℕ} {pos : ℕ} → Sound s Expressions (ExpressionBody s) ps pos → File (length ps) (node_in s ps)
unfolding node_in
sound_file s start = record { earlier = λ r h. absurd (omega arith); distinct = λ i j h l e. absurd (omega arith) }
sound_file s (passed before stands) = sound_file s before
sound_file s (counted {ps} {pos} before stands (new parts fresh)) =
    rw length-append
    (file_more (length ps) (node_in s ps) (node_in s (ps ++ (pos ∷ []))) (sound_file s before)
    (λ r h. rw (get_or-append ps (pos ∷ []) 0 r h))
    (rw (get_or-append_seam ps pos [] 0) parts)
    (λ j h. rw (get_or-append ps (pos ∷ []) 0 j h, get_or-append_seam ps pos [] 0) (fresh j h)))

-- what a file says stands behind records without fault
says_sound : {s : List ℕ} {contents : Contents} {Body : ℕ → List ℕ → ℕ → Type 0} {f : Found} → Says s contents Body f
    → Sound s contents Body f.places f.place
says_sound (accepted before stands some) = before
says_sound (empty before stands) = before
says_sound (refused before stands e) = before
says_sound (body_refused before stands fault) = before

pub read_file : (s : List ℕ) → File (length (reading s).places) (node_in s (reading s).places)
read_file s = sound_file s (says_sound (reading_says s))

pub accepted_file : (s : List ℕ) → (reading s).number ≡ 0 → File (length (reading s).places) (node_in s (reading s).places)
accepted_file s e = read_file s

-- ---- how many

says_some : {s : List ℕ} {contents : Contents} {Body : ℕ → List ℕ → ℕ → Type 0} {pos : ℕ} {ps : List ℕ} → Says s contents Body (found 0 pos ps)
    → 1 ≤ length ps
says_some (accepted before stands some) = some
says_some (refused {r = r} before stands e) = absurd (refusal_some r e)

pub accepted_some : (s : List ℕ) → (reading s).number ≡ 0 → 1 ≤ length (reading s).places
accepted_some s e = says_some (with_number (reading_says s) e)

pub few : (s : List ℕ) → length (reading s).places ≤ 1024
few s = (reading_within s).1

-- ---- in range

grow_ranged : (e : ℕ → Expr) (m : Node) → InRange m → Parts (λ p. Writable 16 (e p)) m → Writable 16 (grow e m)
grow_ranged e Silent h u = tt
grow_ranged e (Event b) h u = h
grow_ranged e (Not x) h u = u
grow_ranged e (Either x y) h u = u
grow_ranged e (Then x y) h u = u
grow_ranged e (Repeat x) h u = u
grow_ranged e (Notify x A) h u = (u, h)
grow_ranged e (Try x y) h u = u

module _ (n : ℕ) (node : ℕ → Node) (file : File n node) (ranged : (r : ℕ) → InRange (node r)) where
  ranged_below : (m r : ℕ) → r < m → r < n → Writable 16 (expr node r)
  ranged_below zero r h w = absurd (omega arith)
  ranged_below (suc m) r h w =
      rw (expr_step n node file.earlier r w)
      (grow_ranged (expr node) (node r) (ranged r)
      (parts_map (λ p q. ranged_below m p (omega arith) (omega arith)) (node r) (file.earlier r w)))

pub accepted_range : (s : List ℕ) → ((i : ℕ) → get_or s i 0 < 256) → (r : ℕ) → r < length (reading s).places → Writable 16 (expr_of s r)
unfolding expr_of node_in
accepted_range s small r w =
    ranged_below (length (reading s).places) (node_in s (reading s).places) (read_file s)
    (λ r. node_range s small (get_or (reading s).places r 0)) (suc r) r (omega arith) w

-- ---- pairs

-- both numbers of the pair at p name one of n records
abbrev Inside : List ℕ → ℕ → ℕ → Type 0
Inside s n p = (word_at s p 4 < n) × (word_at s p 6 < n)

sound_pairs : (s : List ℕ) (n : ℕ) {ps : List ℕ} {pos : ℕ} → Sound s Pairs (PairBody s n) ps pos
    → (i : ℕ) → i < length ps → Inside s n (get_or ps i 0)
sound_pairs s n start i h = absurd (omega arith)
sound_pairs s n (passed before stands) i h = sound_pairs s n before i h
sound_pairs s n (counted {ps} {pos} before stands (there both)) i h =
    below_more (λ i. Inside s n (get_or (ps ++ (pos ∷ [])) i 0)) (length ps)
    (λ i l. rw (get_or-append ps (pos ∷ []) 0 i l) (sound_pairs s n before i l))
    (rw (get_or-append_seam ps pos [] 0) both)
    i (rw length-append at h)

pub accepted_pairs : (s : List ℕ) (n : ℕ) → (reading_pairs s n).number ≡ 0
    → (1 ≤ length (reading_pairs s n).places) × (length (reading_pairs s n).places ≤ 256)
    × ((i : ℕ) → i < length (reading_pairs s n).places
    → (word_at s (get_or (reading_pairs s n).places i 0) 4 < n) × (word_at s (get_or (reading_pairs s n).places i 0) 6 < n))
accepted_pairs s n e = (
  says_some (with_number (reading_pairs_says s n) e),
  (reading_pairs_within s n).1,
  sound_pairs s n (says_sound (reading_pairs_says s n)),
)
