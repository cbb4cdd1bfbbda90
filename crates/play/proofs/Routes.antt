-- One event downwards, by the route that the node takes, on any nodes whatever.
use Prim.Native.Nat.{ℕ, zero, suc, ◌/◌, ◌%◌, ◌≤◌, ◌<◌}
use mathlib.Core.Path.{◌≡◌, refl}
use mathlib.Core.List.{List}
use native.Mathlib.Omega.{arith}
use lib.Dec.{ltb}
use lib.ListN.{get_or}
use borrow.Author.Tests.{ltb-true, le-ltb, eq-eqb, ne_eqb}
use Rattle.play.specs.declared.ends.Words.{Words}
use Rattle.play.specs.declared.ways.Route.{Route}
use Rattle.play.specs.Mirror.Nodes.{kind_at, first_at, gain_at, known_kind}
use Rattle.play.specs.Mirror.Down.{Made, route_of, taken, came, down}
use Rattle.play.proofs.Tests.{by_test}

-- a number that is no kind's is silent, as silent's own
pub route_known : (k A T lo x r : ℕ) → route_of (known_kind k) A T lo x r ≡ route_of k A T lo x r
unfolding known_kind route_of
route_known k A T lo x r =
    let Q : ℕ → Type 0 = λ n. route_of n A T lo x r ≡ route_of k A T lo x r in
    by_test Q (ltb k 1) (λ i. let z : k ≡ 0 = omega (arith, ltb-true k 1 i) in rw z refl) λ _.
    by_test Q (ltb 8 k) (λ j. rw (le-ltb k 3 (omega (arith, ltb-true 8 k j)), j) refl) λ _.
    refl

-- on a part that stands in lo .. r
module _ (F G : List ℕ) (T : ℕ) (st : Words) {lo r a b : ℕ} {m : Made} where
  pub down_part : a ≡ lo → b ≡ r → ((f : ℕ) → b < f → m ≡ down F G T f a b st) → (f : ℕ) → r < f → m ≡ down F G T f lo r st
  down_part i j g f h = rw (← i, ← j) (g f (rw j h))

module _ (F G : List ℕ) (T lo r : ℕ) (st : Words) where
  -- where r is its only node
  pub down_event : lo ≡ r → (f : ℕ) → r < f → came r st ≡ down F G T f lo r st
  unfolding down
  down_event i zero h = absurd (omega arith)
  down_event i (suc f) h = rw (eq-eqb lo r i) refl

  -- what a node does is the same by its kind's number as by its own
  known : (A x kind : ℕ) (go : ℕ → ℕ → Words → Made) (g : ℕ)
      → taken go (route_of kind A T lo x r) (known_kind kind) g lo x r st ≡ taken go (route_of kind A T lo x r) kind g lo x r st
  unfolding known_kind route_of
  known A x kind go g =
      let Q : ℕ → Type 0 = λ k. taken go (route_of kind A T lo x r) k g lo x r st ≡ taken go (route_of kind A T lo x r) kind g lo x r st in
      by_test Q (ltb kind 1) (λ i. let z : kind ≡ 0 = omega (arith, ltb-true kind 1 i) in rw z refl) λ _.
      by_test Q (ltb 8 kind) (λ j. rw (le-ltb kind 3 (omega (arith, ltb-true 8 kind j)), j) refl) λ _.
      refl

  -- by the route, where r has a part; x is the first
  pub down_done : {x kind : ℕ} {k : Route} → lo < r → x ≡ get_or F r 0 / 256 → kind ≡ known_kind (get_or F r 0 % 256)
      → k ≡ route_of (get_or F r 0 % 256) st.active T lo x r → (m : Made)
      → ((f : ℕ) → r ≤ f → m ≡ taken (down F G T f) k kind (get_or G r 0) lo x r st)
      → (f : ℕ) → r < f → m ≡ down F G T f lo r st
  unfolding down kind_at first_at gain_at
  down_done h i j e m g zero u = absurd (omega arith)
  down_done {x} h i j e m g (suc f) u =
      rw (ne_eqb lo r (λ q. omega arith), ← i, ← known st.active x (get_or F r 0 % 256) (down F G T f) (get_or G r 0), ← j, ← e) (g f (omega arith))
