-- Capped sizes: a record's from those of its parts, and the loop that fills a table with them. `sized_one`: the table is decided by what it is to hold.
use Prim.Native.Nat.{ℕ, ◌+◌, ◌≤◌, ◌<◌, min}
use mathlib.Core.Path.{◌≡◌, refl, sym, ◌∙◌}
use mathlib.Core.List.{List}
use mathlib.Core.Bool.{Bool, true, false}
use native.Mathlib.Omega.{arith}
use borrow.Author.Count.{below_more}
use borrow.Author.Tests.{ltb-true, ltb-false}
use lib.Dec.{ltb}
use lib.ListN.{length, get_or, set, length-set}
use lib.Seq.{get_or-set_same, get_or-set_other, ext_get_or}
use Rattle.par.specs.declared.Node.{Node}
use Rattle.par.specs.declared.Node.TheVariants.{Silent, Event, Not, Either, Then, Repeat, Notify, Try}
use Rattle.par.specs.Expr.{Expr, size}
use Rattle.par.specs.Records.{grow, Parts, expr}
use Rattle.par.proofs.Records.{parts_map, expr_step}
use Rattle.files.specs.Rule.{Earlier, capped_size, size_from}
use Rattle.files.specs.Post.{Sized}

-- ---- one record

-- a part's size may be capped before it is counted
one_part : (a b : ℕ) → a ≡ min 65 b → min 65 (1 + a) ≡ min 65 (1 + b)
one_part a b e = omega arith

two_parts : (a b c d : ℕ) → (a ≡ min 65 c) × (b ≡ min 65 d) → min 65 (1 + a + b) ≡ min 65 (1 + c + d)
two_parts a b c d e = omega arith

size_grown : (sizes : ℕ → ℕ) (e : ℕ → Expr) (m : Node) → Parts (λ p. sizes p ≡ min 65 (size (e p))) m
    → size_from sizes m ≡ min 65 (size (grow e m))
unfolding size
size_grown sizes e Silent u = refl
size_grown sizes e (Event b) u = refl
size_grown sizes e (Not x) u = one_part _ _ u
size_grown sizes e (Either x y) u = two_parts _ _ _ _ u
size_grown sizes e (Then x y) u = two_parts _ _ _ _ u
size_grown sizes e (Repeat x) u = one_part _ _ u
size_grown sizes e (Notify x A) u = one_part _ _ u
size_grown sizes e (Try x y) u = two_parts _ _ _ _ u

-- what is worked out from the capped sizes of the records before is the record's capped size
pub size_step : (node : ℕ → Node) (n : ℕ) → Earlier node n → (sizes : ℕ → ℕ) (r : ℕ) → r < n
    → ((p : ℕ) → p < r → sizes p ≡ capped_size node p) → size_from sizes (node r) ≡ capped_size node r
unfolding capped_size
size_step node n earlier sizes r h before =
    rw (expr_step n node earlier) (size_grown sizes (expr node) (node r) (parts_map before (node r) (earlier r h)))

-- ---- the loop

-- the records that a record names are among any that reach up to it
pub parts_below : (node : ℕ → Node) (n : ℕ) → Earlier node n → (r m : ℕ) → r < n → r ≤ m → Parts (λ p. p < m) (node r)
parts_below node n earlier r m h l = parts_map {P = λ p. p < r} {Q = λ p. p < m} (λ p q. omega arith) (node r) (earlier r h)

pub sized_more : (node : ℕ → Node) (n : ℕ) → Earlier node n → (was is : List ℕ) (j v : ℕ) → j < n → j < length is
    → Sized node j was is → v ≡ size_from (λ p. get_or is p 0) (node j) → Sized node (j + 1) was (set is j v)
sized_more node n earlier was is j v h room g e =
    record {
      long = length-set is j v ∙ g.long;
      filled = below_more (λ r. get_or (set is j v) r 0 ≡ capped_size node r) j
          (λ r l. get_or-set_other is j r v 0 (λ q. omega arith) ∙ g.filled r l)
          (get_or-set_same is j v 0 room ∙ e ∙ size_step node n earlier (λ p. get_or is p 0) j h g.filled);
      behind = λ i l. get_or-set_other is j i v 0 (λ q. omega arith) ∙ g.behind i (omega arith);
    }

-- ---- no two outcomes

module _ (node : ℕ → Node) (n : ℕ) (was is is' : List ℕ) (g : Sized node n was is) (g' : Sized node n was is') where
  entry_one : (i : ℕ) (b : Bool) → ltb i n ≡ b → get_or is i 0 ≡ get_or is' i 0
  entry_one i true e = let h = ltb-true i n e in g.filled i h ∙ sym (g'.filled i h)
  entry_one i false e = let h = ltb-false i n e in g.behind i h ∙ sym (g'.behind i h)

  pub sized_one : is ≡ is'
  sized_one = ext_get_or 0 is is' (g.long ∙ sym g'.long) (λ i h. entry_one i _ refl)
