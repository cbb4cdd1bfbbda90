-- The loop of `fill`: what is entered of the first r nodes; after all of them it is the table.
use Prim.Native.Nat.{ℕ, ◌+◌, ◌≤◌, ◌<◌}
use mathlib.Core.Path.{◌≡◌, refl, sym, ap, ◌∙◌}
use mathlib.Core.Bool.{Bool, true, false, cond, ◌&&◌}
use mathlib.Core.List.{List, replicate}
use native.Mathlib.Omega.{arith}
use native.Mathlib.Numerals.{add-one}
use lib.ListN.{length, get_or, set, length-set, get_or-replicate}
use lib.Seq.{get_or-set_same, get_or-set_other}
use lib.Dec.{eqb}
use borrow.Author.Tests.{eqb-true, eqb-false}
use Rattle.play.specs.Mirror.Masks.{bit, one, with}
use Rattle.play.specs.Mirror.Nodes.{first_at}
use Rattle.play.specs.Mirror.Step.{comes}
use Rattle.engine.specs.Mirror.Feed.{entered, Table}

pub record Filling (F : List ℕ) (L : ℕ) (l : List ℕ) (r : ℕ) : Type 0 where
  pub inside : r ≤ 64
  pub long : length l ≡ 256
  pub at : (a : ℕ) → a < 256 → get_or l a 0 ≡ comes F L a L r

module _ (F : List ℕ) (L : ℕ) where
  pub filling_begins : {l : List ℕ} → l ≡ replicate 256 0 → Filling F L l 0
  unfolding comes
  filling_begins e = rw e (record { inside = omega arith; long = refl; at = λ a h. get_or-replicate 256 a 0 0 h })

  module _ {l : List ℕ} {r : ℕ} (now : Filling F L l r) where
    entry : (x a : ℕ) → a < 256 → (e : Bool) → eqb x a ≡ e
        → get_or (set l x (with (get_or l x 0) (one r))) a 0 ≡ cond (e && true) (with (comes F L a L r) (one r)) (comes F L a L r)
    entry x a h true e =
        let i = eqb-true x a e in
        let long = now.long in
        rw i (get_or-set_same l a (with (get_or l a 0) (one r)) 0 (omega arith) ∙ ap (λ (n : ℕ). with n (one r)) (now.at a h))
    entry x a h false e = get_or-set_other l x a (with (get_or l x 0) (one r)) 0 (λ i. eqb-false x a e (sym i)) ∙ now.at a h

    entries : (x a : ℕ) → a < 256 → (t : Bool)
        → get_or (cond t (set l x (with (get_or l x 0) (one r))) l) a 0
        ≡ cond (t && (eqb x a && t)) (with (comes F L a L r) (one r)) (comes F L a L r)
    entries x a h true = entry x a h (eqb x a) refl
    entries x a h false = now.at a h

    longer : (x v : ℕ) (t : Bool) → length (cond t (set l x v) l) ≡ 256
    longer x v true = length-set l x v ∙ now.long
    longer x v false = now.long

    pub filling_turn : r < 64 → Filling F L (entered L (get_or F r 0) r l) (r + 1)
    unfolding comes entered first_at
    filling_turn h =
        record {
          inside = omega arith;
          long = longer _ _ (bit L r);
          at = λ a k. rw (add-one r) (entries (first_at F r) a k (bit L r));
        }

    pub filling_ended : 64 ≤ r → Table F L l
    filling_ended h =
        let inside = now.inside in
        let all : r ≡ 64 = omega arith in
        record { long = now.long; at = λ a k. rw all at (now.at a k) }
