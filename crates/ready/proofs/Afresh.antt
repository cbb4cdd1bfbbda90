-- What the root of nodes that lay an expression has afresh plays this expression (`starts`).
use Prim.Native.Nat.{ℕ, suc, ◌-◌, ◌≤◌, ◌<◌}
use mathlib.Core.Path.{◌≡◌, refl, ◌∙◌}
use mathlib.Core.Bool.{false}
use mathlib.Core.List.{List}
use native.Mathlib.Omega.{arith}
use lib.ListN.{length, get_or}
use lib.Dec.{eqb}
use borrow.Author.Tests.{lt-ltb}
use Rattle.par.specs.Expr.{Expr}
use Rattle.play.specs.Mirror.Masks.{bit, one}
use Rattle.play.specs.Mirror.Nodes.{packed, kind_at, first_at, gain_at}
use Rattle.play.proofs.Plays.{One, Two, Stands, Stands.goes}
use Rattle.play.proofs.Plays.{Plays.silent, Plays.event, Plays.not, Plays.notify, Plays.repeat_fresh}
use Rattle.play.proofs.Plays.{Plays.either_both, Plays.then_first, Plays.try_both}
use Rattle.play.proofs.Digits.{bit_none, with_self}
use Rattle.play.proofs.Frame.{in_range}
use Rattle.ready.specs.Mirror.Fresh.{fresh_from, gain_from, earlier, prepares, start_of}
use Rattle.ready.proofs.Lays.{Lays}
use Rattle.ready.proofs.Lays.{Lays.silent as lies_silent, Lays.event as lies_event, Lays.not as lies_not, Lays.either as lies_either}
use Rattle.ready.proofs.Lays.{Lays.then as lies_then, Lays.repeat as lies_repeat, Lays.notify as lies_notify, Lays.try as lies_try}
use Rattle.ready.proofs.Prepared.{Has, prepares_has}
use Rattle.ready.proofs.Beside.{one_self, only_one, first_clear, At, at_is, with_first, with_both}

-- ---- what a node says that has parts, the first x and the last right before it

record Tells (F S H G : List ℕ) (L R kind x y : ℕ) : Type 0 where
  kind_is : kind_at F (suc y) ≡ kind
  first_is : first_at F (suc y) ≡ x
  fresh_is : get_or H (suc y) 0 ≡ fresh_from kind (suc y) (get_or H x 0) (get_or H y 0)
  gain_is : gain_at G (suc y) ≡ gain_from kind (get_or S (suc y) 0) (get_or H y 0)
  leaf_is : bit L (suc y) ≡ eqb kind 2
  repeat_is : bit R (suc y) ≡ eqb kind 6

module _ {F S H G : List ℕ} {L R n : ℕ} (few : n ≤ 64) (has : Has F S n H G L R) where
  before : (x r : ℕ) → x < r → earlier H x r ≡ get_or H x 0
  unfolding earlier
  before x r h = rw (lt-ltb x r h)

  tells : (kind x y : ℕ) → kind < 256 → get_or F (suc y) 0 ≡ packed kind x → x ≤ y → suc y < n → Tells F S H G L R kind x y
  unfolding kind_at first_at
  tells kind x y small i l h =
      let k : kind_at F (suc y) ≡ kind = rw i (omega arith) in
      let f : first_at F (suc y) ≡ x = rw i (omega arith) in
      let z : suc y - 1 ≡ y = omega arith in
      record {
        kind_is = k;
        first_is = f;
        fresh_is = has.fresh_is (suc y) h ∙ rw (k, f, z, before x (suc y) (omega arith), before y (suc y) (omega arith));
        gain_is = has.gain_is (suc y) h ∙ rw (k, z, before y (suc y) (omega arith));
        leaf_is = has.leaf_is (suc y) h ∙ rw k;
        repeat_is = has.repeat_is (suc y) h ∙ rw k;
      }

  one_at : {kind lo x A : ℕ} {d : Expr} → Tells F S H G L R kind x x → eqb kind 2 ≡ false → suc x < n → At F G L R A lo x d → One F L kind lo x
  one_at t j h a =
      record { kind_is = t.kind_is; first_is = t.first_is; no_event = t.leaf_is ∙ j; within = in_range a.plays; few = omega arith }

  two_at : {kind lo x y A : ℕ} {d : Expr} → Tells F S H G L R kind x y → eqb kind 2 ≡ false → suc y < n → x < y → At F G L R A lo x d
      → Two F L kind lo x y
  two_at t j h l a =
      record {
        kind_is = t.kind_is;
        first_is = t.first_is;
        no_event = t.leaf_is ∙ j;
        within = in_range a.plays;
        apart = l;
        few = omega arith;
      }

  -- of a node that has none
  leaf : (kind x r : ℕ) → kind < 3 → get_or F r 0 ≡ packed kind x → r < n
      → (kind_at F r ≡ kind) × (first_at F r ≡ x) × (get_or H r 0 ≡ one r) × (bit L r ≡ eqb kind 2)
  unfolding kind_at first_at fresh_from
  leaf kind x r small i h =
      let k : kind_at F r ≡ kind = rw i (omega arith) in
      (k, rw i (omega arith), has.fresh_is r h ∙ rw (k, lt-ltb kind 3 small), has.leaf_is r h ∙ rw k)

  -- ---- by construct

  afresh : {lo r : ℕ} {e : Expr} → Lays F S lo r e → r < n → At F G L R (get_or H r 0) lo r e
  unfolding fresh_from gain_from
  afresh {r = r} (lies_silent i) h =
      let t = leaf 1 0 r (omega arith) i h in
      rw t.2 (record { plays = silent (record { kind_is = t.0 }) t.3 (one_self r); only = only_one r })
  afresh {r = r} (lies_event {b = b} i) h =
      let t = leaf 2 b r (omega arith) i h in
      rw t.2 (record { plays = event (record { kind_is = t.0 }) t.3 t.1 (one_self r); only = only_one r })
  afresh (lies_not {x = x} i m) h =
      let a = afresh m (omega arith) in
      let t = tells 3 x x (omega arith) i (omega arith) h in
      let w = with_first x (omega arith) a in
      rw t.fresh_is (record { plays = not (one_at t refl h a) (with_self _ (suc x)) w.0; only = w.1 })
  afresh (lies_notify {x = x} i j m) h =
      let a = afresh m (omega arith) in
      let t = tells 7 x x (omega arith) i (omega arith) h in
      let w = with_first x (omega arith) a in
      rw t.fresh_is (record { plays = notify (one_at t refl h a) (with_self _ (suc x)) (t.gain_is ∙ j) w.0; only = w.1 })
  afresh (lies_repeat {x = x} i m) h =
      let a = afresh m (omega arith) in
      let t = tells 6 x x (omega arith) i (omega arith) h in
      let w = with_first x (omega arith) a in
      let g = at_is t.gain_is a in
      rw t.fresh_is
      (record {
        plays = repeat_fresh (one_at t refl h a) t.repeat_is (with_self _ (suc x)) (bit_none (suc x)) w.0 g.plays g.only;
        only = w.1;
      })
  afresh (lies_either {x = x} {y = y} i l m k) h =
      let a = afresh m (omega arith) in
      let b = afresh k (omega arith) in
      let t = tells 4 x y (omega arith) i (omega arith) h in
      let w = with_both a b in
      rw t.fresh_is (record { plays = either_both (two_at t refl h l a) (with_self _ (suc y)) w.0 w.1; only = w.2 })
  afresh (lies_try {x = x} {y = y} i l m k) h =
      let a = afresh m (omega arith) in
      let b = afresh k (omega arith) in
      let t = tells 8 x y (omega arith) i (omega arith) h in
      let w = with_both a b in
      rw t.fresh_is (record { plays = try_both (two_at t refl h l a) (with_self _ (suc y)) w.0 w.1; only = w.2 })
  afresh (lies_then {x = x} {y = y} i l m k) h =
      let a = afresh m (omega arith) in
      let b = afresh k (omega arith) in
      let t = tells 5 x y (omega arith) i (omega arith) h in
      let w = with_first y (omega arith) a in
      let g = at_is t.gain_is b in
      rw t.fresh_is
      (record {
        plays = then_first (two_at t refl h l a) (with_self _ (suc y)) w.0 (first_clear y a.only) g.plays g.only;
        only = w.1;
      })

-- ---- a whole rule

-- a rule whose nodes are written out starts as its expression
pub starts : (F S : List ℕ) {root : ℕ} {e : Expr} → length S ≡ 64 → root < 64 → Lays F S 0 root e
    → let p = prepares F S (suc root) in Stands F p.gain p.leaves p.repeats root (start_of p root).fresh 0 e
starts F S {root} long h m = let a = afresh h (prepares_has F S long (suc root) h) m (omega arith) in goes a.plays a.only
