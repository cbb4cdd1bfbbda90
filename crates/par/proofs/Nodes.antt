-- The comparisons of records. Two records that the order does not tell apart are the same (`node_equal`), and `same_node` tells whether they are.
use Prim.Native.Nat.{ℕ}
use mathlib.Core.Path.{◌≡◌, refl, sym, ap, ◌∙◌}
use mathlib.Core.Bool.{true≢false}
use Rattle.std.specs.declared.cmp.Ordering.{Ordering}
use Rattle.std.specs.declared.cmp.Ordering.TheVariants.{Less, Equal, Greater}
use Rattle.std.specs.Bool.{Decides}
use Rattle.std.specs.Cmp.{IsTotalOrder, tied_itself, Equal-is}
use Rattle.std.specs.Ordering.{nat_cmp, ordering_then, is_eq}
use Rattle.std.proofs.lemmas.Cmp.{ranked}
use Rattle.par.specs.declared.Node.{Node}
use Rattle.par.specs.declared.Node.TheVariants.{Silent, Event, Not, Either, Then, Repeat, Notify, Try}
use Rattle.par.specs.Nodes.{node_cmp, same_node, field_cmp}
use Rattle.par.specs.contracts.NodeOrd.TheImpl.Laws as laws

-- ---- fields

pub number_equal : (x y : ℕ) → nat_cmp x y ≡ Equal → x ≡ y
number_equal x y e = ranked x y Equal (sym e)

pub then_equal : (p q : Ordering) → ordering_then p q ≡ Equal → (p ≡ Equal) × (q ≡ Equal)
then_equal Less q e = cc
then_equal Equal q e = (refl, e)
then_equal Greater q e = cc

-- ---- records

both_equal : (x y x' y' : ℕ) → ordering_then (nat_cmp x x') (nat_cmp y y') ≡ Equal → (x ≡ x') × (y ≡ y')
both_equal x y x' y' e = let h = then_equal (nat_cmp x x') (nat_cmp y y') e in (number_equal x x' h.0, number_equal y y' h.1)

pub node_equal : (a b : Node) → node_cmp a b ≡ Equal → a ≡ b
node_equal Silent Silent e = refl
node_equal (Event x) (Event y) e = ap Event (number_equal x y e)
node_equal (Not x) (Not y) e = ap Not (number_equal x y e)
node_equal (Either x y) (Either x' y') e = let h = both_equal x y x' y' e in λ i. Either (h.0 i) (h.1 i)
node_equal (Then x y) (Then x' y') e = let h = both_equal x y x' y' e in λ i. Then (h.0 i) (h.1 i)
node_equal (Repeat x) (Repeat y) e = ap Repeat (number_equal x y e)
node_equal (Notify x y) (Notify x' y') e = let h = both_equal x y x' y' e in λ i. Notify (h.0 i) (h.1 i)
node_equal (Try x y) (Try x' y') e = let h = both_equal x y x' y' e in λ i. Try (h.0 i) (h.1 i)
node_equal a b e = absurd (true≢false (sym (ap is_eq e)))

-- ---- the laws of the derived comparisons

pub node_order : IsTotalOrder node_cmp
node_order = laws.total-law

pub node_itself : (a b : Node) → a ≡ b → node_cmp a b ≡ Equal
node_itself a b e = ap (node_cmp a) (sym e) ∙ tied_itself node_order a

pub same_node_lem : (a b : Node) → Decides (same_node a b) (a ≡ b)
same_node_lem a b = (
  λ e. node_equal a b ((Equal-is (node_cmp a b)).0 (sym (laws.matches_eq-law a b) ∙ e)),
  λ e. laws.matches_eq-law a b ∙ ap is_eq (node_itself a b e),
)

-- ---- they go by the fields

then_equal_last : (p : Ordering) → p ≡ ordering_then p Equal
then_equal_last Less = refl
then_equal_last Equal = refl
then_equal_last Greater = refl

pub node_cmp_fields : (a b : Node) → node_cmp a b ≡ field_cmp a b
node_cmp_fields Silent Silent = refl
node_cmp_fields Silent (Event x') = refl
node_cmp_fields Silent (Not x') = refl
node_cmp_fields Silent (Either x' y') = refl
node_cmp_fields Silent (Then x' y') = refl
node_cmp_fields Silent (Repeat x') = refl
node_cmp_fields Silent (Notify x' y') = refl
node_cmp_fields Silent (Try x' y') = refl
node_cmp_fields (Event x) Silent = refl
node_cmp_fields (Event x) (Event x') = then_equal_last (nat_cmp x x')
node_cmp_fields (Event x) (Not x') = refl
node_cmp_fields (Event x) (Either x' y') = refl
node_cmp_fields (Event x) (Then x' y') = refl
node_cmp_fields (Event x) (Repeat x') = refl
node_cmp_fields (Event x) (Notify x' y') = refl
node_cmp_fields (Event x) (Try x' y') = refl
node_cmp_fields (Not x) Silent = refl
node_cmp_fields (Not x) (Event x') = refl
node_cmp_fields (Not x) (Not x') = then_equal_last (nat_cmp x x')
node_cmp_fields (Not x) (Either x' y') = refl
node_cmp_fields (Not x) (Then x' y') = refl
node_cmp_fields (Not x) (Repeat x') = refl
node_cmp_fields (Not x) (Notify x' y') = refl
node_cmp_fields (Not x) (Try x' y') = refl
node_cmp_fields (Either x y) Silent = refl
node_cmp_fields (Either x y) (Event x') = refl
node_cmp_fields (Either x y) (Not x') = refl
node_cmp_fields (Either x y) (Either x' y') = refl
node_cmp_fields (Either x y) (Then x' y') = refl
node_cmp_fields (Either x y) (Repeat x') = refl
node_cmp_fields (Either x y) (Notify x' y') = refl
node_cmp_fields (Either x y) (Try x' y') = refl
node_cmp_fields (Then x y) Silent = refl
node_cmp_fields (Then x y) (Event x') = refl
node_cmp_fields (Then x y) (Not x') = refl
node_cmp_fields (Then x y) (Either x' y') = refl
node_cmp_fields (Then x y) (Then x' y') = refl
node_cmp_fields (Then x y) (Repeat x') = refl
node_cmp_fields (Then x y) (Notify x' y') = refl
node_cmp_fields (Then x y) (Try x' y') = refl
node_cmp_fields (Repeat x) Silent = refl
node_cmp_fields (Repeat x) (Event x') = refl
node_cmp_fields (Repeat x) (Not x') = refl
node_cmp_fields (Repeat x) (Either x' y') = refl
node_cmp_fields (Repeat x) (Then x' y') = refl
node_cmp_fields (Repeat x) (Repeat x') = then_equal_last (nat_cmp x x')
node_cmp_fields (Repeat x) (Notify x' y') = refl
node_cmp_fields (Repeat x) (Try x' y') = refl
node_cmp_fields (Notify x y) Silent = refl
node_cmp_fields (Notify x y) (Event x') = refl
node_cmp_fields (Notify x y) (Not x') = refl
node_cmp_fields (Notify x y) (Either x' y') = refl
node_cmp_fields (Notify x y) (Then x' y') = refl
node_cmp_fields (Notify x y) (Repeat x') = refl
node_cmp_fields (Notify x y) (Notify x' y') = refl
node_cmp_fields (Notify x y) (Try x' y') = refl
node_cmp_fields (Try x y) Silent = refl
node_cmp_fields (Try x y) (Event x') = refl
node_cmp_fields (Try x y) (Not x') = refl
node_cmp_fields (Try x y) (Either x' y') = refl
node_cmp_fields (Try x y) (Then x' y') = refl
node_cmp_fields (Try x y) (Repeat x') = refl
node_cmp_fields (Try x y) (Notify x' y') = refl
node_cmp_fields (Try x y) (Try x' y') = refl
