-- A number as a kind: a node of any number is made ready as one of a construct's kind, which is a not where the number is above every construct's.
use Prim.Native.Nat.{ℕ, zero, suc, ◌≤◌, ◌<◌}
use mathlib.Core.Path.{◌≡◌, refl}
use native.Mathlib.Omega.{arith}
use borrow.Author.Tests.{le-ltb, ne_eqb}
use Rattle.play.specs.Mirror.Nodes.{known_kind}
use Rattle.ready.specs.Mirror.Fresh.{fresh_from, gain_from, marked, AlikeAfresh}

known : (k : ℕ) → 1 ≤ k → k ≤ 8 → known_kind k ≡ k
unfolding known_kind
known k h l = rw (le-ltb k 1 h, le-ltb 8 k l)

pub alike_known : (k m : ℕ) → k ≤ 8 → m ≡ known_kind k → AlikeAfresh k m
unfolding known_kind fresh_from gain_from marked
alike_known zero m l e =
    rw e (record { fresh = λ r first last. refl; gain = λ set last. refl; leaf = λ r A. refl; repeat = λ r A. refl })
alike_known (suc k) m l e =
    rw (e, known (suc k) (omega arith) l)
    (record { fresh = λ r first last. refl; gain = λ set last. refl; leaf = λ r A. refl; repeat = λ r A. refl })

pub alike_above : (k : ℕ) → 8 < k → AlikeAfresh k 3
unfolding fresh_from gain_from marked
alike_above k h =
    let few = le-ltb k 3 (omega arith) in
    let four = ne_eqb k 4 (λ e. omega arith) in
    let eight = ne_eqb k 8 (λ e. omega arith) in
    record {
      fresh = λ r first last. rw (few, four, eight);
      gain = λ set last. rw (ne_eqb k 7 (λ e. omega arith));
      leaf = λ r A. rw (ne_eqb k 2 (λ e. omega arith));
      repeat = λ r A. rw (ne_eqb k 6 (λ e. omega arith));
    }
