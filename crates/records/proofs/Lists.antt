-- What a store behind the first j elements of a list leaves: one element more in front, and the same behind.
use Prim.Native.Nat.{ℕ, ◌+◌, ◌<◌}
use mathlib.Core.Path.{◌≡◌, sym, ◌∙◌, ap}
use mathlib.Core.List.{List, [], ◌∷◌, ◌++◌}
use native.Mathlib.Omega.{arith}
use native.Mathlib.Numerals.{add-one}
use lib.ListN.{length, take, drop, set}
use lib.Seq.{take-suc-set, drop-set-lt, drop-drop}

pub front_more : {A : Type 0} (l : List A) (j : ℕ) (a : A) → j < length l → take (j + 1) (set l j a) ≡ take j l ++ (a ∷ [])
front_more l j a h = rw add-one (take-suc-set l j a h)

pub behind_more : {A : Type 0} (l w : List A) (j : ℕ) (a : A) → drop j l ≡ drop j w → drop (j + 1) (set l j a) ≡ drop (j + 1) w
behind_more l w j a e = drop-set-lt (j + 1) l j a (omega arith) ∙ sym (drop-drop 1 j l) ∙ ap (drop 1) e ∙ drop-drop 1 j w
