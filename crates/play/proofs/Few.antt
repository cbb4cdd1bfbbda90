-- A step has at most 64 lines, on any nodes whatever: the nodes whose lines count only ever lose some.
use Prim.Native.Nat.{ℕ, zero, suc, ◌+◌, ◌-◌, ◌^◌, ◌≤◌, ◌<◌}
use mathlib.Core.List.{List}
use native.Mathlib.Omega.{arith}
use lib.Count.{ones-le}
use lib.Dec.{eqb}
use Rattle.par.specs.declared.Status.{Status}
use Rattle.par.specs.declared.Status.TheVariants.{Waiting, Success, Failure}
use Rattle.play.specs.declared.Moved.{Moved}
use Rattle.play.specs.declared.ways.Route.{Route}
use Rattle.play.specs.declared.ways.Route.TheVariants.{Silent, One, First, Second, Both, Left, Right}
use Rattle.play.specs.Mirror.Masks.{clear}
use Rattle.play.specs.Mirror.Nodes.{kind_at, first_at, gain_at}
use Rattle.play.specs.declared.ends.Words.{Words}
use Rattle.play.specs.Mirror.Down.{Made, route_of, one_end, try_counted, both_counted, both_end, taken, down}
use Rattle.play.specs.Mirror.Step.{comes, moved_by, stepped_by, stepped}
use Rattle.play.proofs.Tests.{by_test}
use Rattle.play.proofs.Digits.{less_small}

both_few : (kind : ℕ) (s : Status) (x r C : ℕ) → C < 2 ^ 64 → both_counted kind s x r C < 2 ^ 64
unfolding both_counted try_counted clear
both_few kind s x r C h = by_test (λ n. n < 2 ^ 64) (eqb kind 4) (λ _. h) (λ _. tried s)
  where
    tried : (s : Status) → try_counted s x r C < 2 ^ 64
    tried Waiting = h
    tried Success = less_small C _ h
    tried Failure = less_small C _ h

-- what `go` leaves is a word where what it was given is one
abbrev Few : (ℕ → ℕ → Words → Made) → Type 0
Few go = (lo r : ℕ) (st : Words) → st.counted < 2 ^ 64 → (go lo r st).after.counted < 2 ^ 64

taken_few : (go : ℕ → ℕ → Words → Made) → Few go → (k : Route) (kind g x : ℕ) → Few (λ lo r st. taken go k kind g lo x r st)
unfolding one_end both_end
taken_few go i Silent kind g x lo r st h = h
taken_few go i One kind g x lo r st h = i lo x st h
taken_few go i First kind g x lo r st h = i lo x st h
taken_few go i Second kind g x lo r st h = i (x + 1) (r - 1) st h
taken_few go i Both kind g x lo r st h = both_few kind _ x r _ (i (x + 1) (r - 1) _ (i lo x st h))
taken_few go i Left kind g x lo r st h = both_few kind _ x r _ (i lo x st h)
taken_few go i Right kind g x lo r st h = both_few kind Waiting x r _ (i (x + 1) (r - 1) st h)

module _ (F G : List ℕ) where
  down_few : (T f : ℕ) → Few (down F G T f)
  unfolding down
  down_few T zero lo r st h = h
  down_few T (suc f) lo r st h =
      by_test (λ (m : Made). m.after.counted < 2 ^ 64) (eqb lo r) (λ _. h)
      (λ _. taken_few (down F G T f) (down_few T f) (route_of (kind_at F r) st.active T lo (first_at F r) r) (kind_at F r) (gain_at G r)
      (first_at F r) lo r st h)

  pub lines_few : (L R root a A : ℕ) → A < 2 ^ 64 → (stepped F G L R root a A).lines ≤ 64
  unfolding stepped stepped_by moved_by
  lines_few L R root a A h =
      let T = comes F L a A 64 in
      by_test (λ (m : Moved). m.lines ≤ 64) (eqb T 0) (λ _. by_test (λ n. n ≤ 64) (eqb A 0) (λ _. omega arith) (λ _. ones-le 64 A h))
      (λ _. ones-le 64 _ (down_few T (suc root) 0 root _ h))
