-- What a text leaves in the output, by whether it fits; one run of bytes behind another, and over another.
use Prim.Native.Nat.{ℕ, suc, ◌+◌, ◌≤◌, ◌<◌}
use mathlib.Core.Path.{◌≡◌, refl, sym, ◌∙◌}
use mathlib.Core.List.{List, [], ◌∷◌, ◌++◌, append_assoc}
use native.Mathlib.Omega.{arith}
use lib.ListN.{length, set, take, drop, length-append, length-drop}
use lib.Seq.{sets, sets-eq, length-sets, length-take-le, take_at, drop_at, drop-drop, drop-append-le, drop-set-lt, take-set-le}
use borrow.Rule.Slice.PartMut.{put_mid}
use borrow.Author.Tests.{le-leb, lt-leb}
use Rattle.engine.proofs.Buffers.{sets_append}
use Rattle.printout.specs.Printed.{PrintedAs}

-- one run of k bytes, and another behind it
pub sets_behind : (l : List ℕ) (p : ℕ) (xs ys : List ℕ) (k : ℕ) → length xs ≡ k → sets l p (xs ++ ys) ≡ sets (sets l p xs) (p + k) ys
sets_behind l p xs ys k e = rw e at (sets_append l p xs ys)

-- what stands behind a run of bytes, and before it, stays
pub drop_sets : (l : List ℕ) (p : ℕ) (vs : List ℕ) (k : ℕ) → p + length vs ≤ k → drop k (sets l p vs) ≡ drop k l
drop_sets l p [] k h = refl
drop_sets l p (v ∷ vs) k h = drop_sets (set l p v) (suc p) vs k (omega arith) ∙ drop-set-lt k l p v (omega arith)

take_sets_below : (l : List ℕ) (p : ℕ) (vs : List ℕ) (k : ℕ) → k ≤ p → take k (sets l p vs) ≡ take k l
take_sets_below l p [] k h = refl
take_sets_below l p (v ∷ vs) k h = take_sets_below (set l p v) (suc p) vs k (omega arith) ∙ take-set-le k l p v h

-- a part from p up to p + k that came back with k bytes
pub put_part : (l : List ℕ) (p : ℕ) (vs : List ℕ) {k : ℕ} → length vs ≡ k → p + k ≤ length l → put_mid p k l vs ≡ sets l p vs
put_part l p vs {k} e h =
    rw (sets-eq vs l p (omega arith), e, drop-drop k p l) (sym (append_assoc (take p l) vs (drop (p + k) l)))

-- a run of bytes that covers an earlier one
pub sets_over : (l : List ℕ) (p : ℕ) (ws : List ℕ) (q : ℕ) (vs : List ℕ) → p ≤ q → q + length vs ≤ p + length ws → p + length ws ≤ length l
    → sets (sets l q vs) p ws ≡ sets l p ws
sets_over l p ws q vs h k room =
    rw (sets-eq ws (sets l q vs) p (rw (length-sets l q vs) room), sets-eq ws l p room, take_sets_below l q vs p h, drop_sets l q vs (p + length ws) k) refl

-- what was written there before is read in the part
pub read_part : (l : List ℕ) (p k m : ℕ) (vs : List ℕ) → m + length vs ≡ k → p + k ≤ length l → drop m (take k (drop p (sets l (p + m) vs))) ≡ vs
read_part l p k m vs e room =
    let cut : length (take (p + m) l) ≡ p + m = length-take-le (p + m) l (omega arith) in
    let mine : length (drop p (take (p + m) l)) ≡ m = length-drop p (take (p + m) l) ∙ omega arith in
    rw (
      sets-eq vs l (p + m) (omega arith),
      drop-append-le p (take (p + m) l ++ vs) (drop (p + m + length vs) l) (simp length-append (omega arith)),
      drop-append-le p (take (p + m) l) vs (omega arith),
      take_at (drop p (take (p + m) l) ++ vs) (drop (p + m + length vs) l) k (length-append (drop p (take (p + m) l)) vs ∙ omega arith),
    )
    (drop_at (drop p (take (p + m) l)) vs m mine)

-- ---- a text that fits, and one that does not

module _ {text output : List ℕ} {n : ℕ} (long : n ≡ length text) where
  pub printed_fits : n ≤ length output → {output' : List ℕ} → output' ≡ sets output 0 text → PrintedAs text output n output'
  printed_fits h e = record { long = long; bytes = e ∙ rw (le-leb (length text) (length output) (rw long at h)) }

  pub printed_not : length output < n → PrintedAs text output n output
  printed_not h = record { long = long; bytes = rw (lt-leb (length text) (length output) (rw long at h)) }

pub printed_one : {text output : List ℕ} {n n' : ℕ} {l l' : List ℕ} → PrintedAs text output n l → PrintedAs text output n' l' → (n ≡ n') × (l ≡ l')
printed_one p q = (p.long ∙ sym q.long, p.bytes ∙ sym q.bytes)
