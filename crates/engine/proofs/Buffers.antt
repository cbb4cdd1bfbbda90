-- Bytes written into a buffer: one run of bytes behind another, and into a part that was lent and came back.
use Prim.Native.Nat.{ℕ, suc, ◌+◌, ◌-◌, ◌≤◌}
use mathlib.Core.Path.{◌≡◌, sym}
use mathlib.Core.List.{List, [], ◌∷◌, ◌++◌, append_assoc, append-nil}
use native.Mathlib.Omega.{arith}
use lib.ListN.{length, take, drop, length-drop, drop_of_length-le}
use lib.Seq.{sets, sets-eq, take_all, drop-drop}
use borrow.Rule.Slice.PartMut.{put_mid}

pub sets_append : (l : List ℕ) (p : ℕ) (xs ys : List ℕ) → sets l p (xs ++ ys) ≡ sets (sets l p xs) (p + length xs) ys
sets_append l p [] ys =
    let z : p + 0 ≡ p = omega arith in
    rw z
sets_append l p (x ∷ xs) ys =
    let z : p + suc (length xs) ≡ suc p + length xs = omega arith in
    rw z (sets_append _ (suc p) xs ys)

part_written : (l : List ℕ) (p : ℕ) (vs : List ℕ) → p + length vs ≤ length l → take p l ++ sets (drop p l) 0 vs ≡ sets l p vs
part_written l p vs h =
    let h' : 0 + length vs ≤ length (drop p l) = rw (length-drop p l) (omega arith) in
    let z : 0 + length vs ≡ length vs = omega arith in
    rw (sets-eq vs (drop p l) 0 h', sets-eq vs l p h, z, drop-drop (length vs) p l) (sym (append_assoc (take p l) vs (drop (p + length vs) l)))

-- a part to the end that came back with vs written at its front
pub put_back : (l : List ℕ) (p : ℕ) (vs l' : List ℕ) → p + length vs ≤ length l → l' ≡ sets (take (length l - p) (drop p l)) 0 vs
    → put_mid p (length l - p) l l' ≡ sets l p vs
put_back l p vs l' h e =
    let all : take (length l - p) (drop p l) ≡ drop p l = take_all (length l - p) (drop p l) (rw (length-drop p l) (omega arith)) in
    let none : drop (length l - p) (drop p l) ≡ [] = rw (drop-drop (length l - p) p l) (drop_of_length-le l {i = p + (length l - p)} (omega arith)) in
    rw (e, none, append-nil, all) (part_written l p vs h)
