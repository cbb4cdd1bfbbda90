-- Where an event that came stands: which part of a node holds it, and which way the node then takes.
use Prim.Native.Nat.{ℕ, suc, ◌^◌, ◌≤◌, ◌<◌}
use mathlib.Core.Path.{◌≡◌, refl, sym, ◌∙◌}
use mathlib.Core.Bool.{Bool, true, false, cond, true≢false}
use mathlib.Core.List.{List}
use native.Mathlib.Numerals.{add-one}
use native.Mathlib.Omega.{arith}
use lib.Dec.{eqb, ltb}
use borrow.Author.Tests.{le-ltb, le-leb, lt-leb, eq-eqb, ne_eqb}
use Rattle.play.specs.declared.ways.Route.{Route}
use Rattle.play.specs.declared.ways.Route.TheVariants.{Silent, One as OneWay}
use Rattle.play.specs.Mirror.Masks.{bit, hit}
use Rattle.play.proofs.Compared.{Clear}
use Rattle.play.specs.Mirror.Nodes.{kind_at, first_at, gain_at}
use Rattle.play.specs.declared.ends.Words.{Words}
use Rattle.play.specs.Mirror.Down.{pair_route, route_of, taken, came, down}
use Rattle.play.proofs.Plays.{One, Two}
use Rattle.play.proofs.Digits.{and_false}
use Rattle.play.proofs.Spans.{hit_false, hit_clear}
use Rattle.play.proofs.Ranges.{clear_one, clear_join}
use Rattle.play.proofs.Rests.{sub_one}
use Rattle.play.proofs.Did.{Ready}

-- ---- which part holds it

module _ {F : List ℕ} {L R T a A lo r : ℕ} {st : Words} (before : Ready F L R T a A lo r st) where
  pub quiet_node : lo ≤ r → bit L r ≡ false → Clear T r r
  quiet_node h i = clear_one (before.due r h (omega arith) ∙ rw i refl)

  pub quiet_part : {lo' r' : ℕ} → lo ≤ lo' → r' ≤ r → Clear A lo' r' → Clear T lo' r'
  quiet_part h k c =
      record {
        off = λ q l m.
            before.due q (omega arith) (omega arith) ∙ rw (c.off q l m, and_false (eqb (first_at F q) a)) (and_false (bit L q));
      }

module _ {T lo r : ℕ} (small : T < 2 ^ 64) (h : hit T lo r ≡ true) where
  pub unclear : Clear T lo r → ⊥
  unclear c = true≢false (sym h ∙ hit_clear T lo r small c)

  -- a part without which there is none
  held : (lo' r' : ℕ) → (Clear T lo' r' → Clear T lo r) → hit T lo' r' ≡ true
  held lo' r' f = go (hit T lo' r') refl
    where
      go : (b : Bool) → hit T lo' r' ≡ b → b ≡ true
      go true i = refl
      go false i = absurd (unclear (f (hit_false T lo' r' i)))

pub held_one : {F : List ℕ} {L R T a A lo x kind : ℕ} {st : Words} → T < 2 ^ 64 → Ready F L R T a A lo (suc x) st → One F L kind lo x
    → hit T lo (suc x) ≡ true → hit T lo x ≡ true
held_one {lo = lo} {x = x} small before own h = held small h lo x (λ c. clear_join c (quiet_node before (omega arith) own.no_event))

module _ {F : List ℕ} {L R T a A lo x y kind : ℕ} {st : Words} (small : T < 2 ^ 64) (before : Ready F L R T a A lo (suc y) st) (own : Two F L kind lo x y)
    (h : hit T lo (suc y) ≡ true) where
  pub held_first : Clear A (suc x) y → hit T lo x ≡ true
  held_first c =
      held small h lo x
      (λ d. clear_join d (clear_join (quiet_part before (omega arith) (omega arith) c) (quiet_node before (omega arith) own.no_event)))

  pub held_second : hit T lo x ≡ false → hit T (suc x) y ≡ true
  held_second i =
      held small h (suc x) y (λ d. clear_join (hit_false T lo x i) (clear_join d (quiet_node before (omega arith) own.no_event)))

-- ---- the way of a node

-- of one whose parts stand in their places, where `pair` is the way of two parts
abbrev pub way_of : ℕ → Route → Route
way_of kind pair =
    cond (ltb kind 3) Silent
    (cond (ltb 8 kind) Silent (cond (eqb kind 3) OneWay (cond (eqb kind 6) OneWay (cond (eqb kind 7) OneWay pair))))

module _ (F G : List ℕ) (T f lo : ℕ) (st : Words) where
  pub took_event : down F G T (suc f) lo lo st ≡ came lo st
  unfolding down
  took_event = rw (eq-eqb lo lo refl) refl

  took : (r : ℕ) {kind x : ℕ} {k : Route} → lo < r → kind_at F r ≡ kind → first_at F r ≡ x → route_of kind st.active T lo x r ≡ k
      → down F G T (suc f) lo r st ≡ taken (down F G T f) k kind (gain_at G r) lo x r st
  unfolding down
  took r h i j l = rw (ne_eqb lo r (λ q. omega arith), i, j, l) refl

  pub took_one : {L kind x : ℕ} → One F L kind lo x
      → down F G T (suc f) lo (suc x) st ≡ taken (down F G T f) (way_of kind Silent) kind (gain_at G (suc x)) lo x (suc x) st
  unfolding route_of
  took_one {kind = kind} {x = x} own =
      took (suc x) {k = way_of kind Silent} (omega arith) own.kind_is own.first_is
      (rw (le-ltb x lo own.within, lt-leb (suc x) x (omega arith), add-one x, le-leb (suc x) (suc x) (omega arith)) refl)

  pub took_pair : {L kind x y : ℕ} {b p q : Bool} → Two F L kind lo x y → bit st.active (suc y) ≡ b → hit T lo x ≡ p → hit T (suc x) y ≡ q
      → down F G T (suc f) lo (suc y) st ≡ taken (down F G T f) (way_of kind (pair_route kind b p q)) kind (gain_at G (suc y)) lo x (suc y) st
  unfolding route_of
  took_pair {kind = kind} {x = x} {y = y} {b = b} {p = p} {q = q} own i j l =
      took (suc y) {k = way_of kind (pair_route kind b p q)} (omega arith) own.kind_is own.first_is
      (rw (
        le-ltb x lo own.within,
        lt-leb (suc y) x (omega arith),
        add-one x,
        lt-leb (suc y) (suc x) (omega arith),
        sub_one y,
        i,
        j,
        l,
      ) refl)
