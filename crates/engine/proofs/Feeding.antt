-- The player's loop: what has been written, with the answers to the rest of the events behind it, is the whole.
use Prim.Native.Nat.{ℕ, suc, ◌+◌, ◌*◌, ◌-◌, ◌≤◌, ◌<◌}
use mathlib.Core.Path.{◌≡◌, refl, sym, ap, ◌∙◌}
use mathlib.Core.List.{List, []}
use native.Mathlib.Omega.{arith}
use native.Mathlib.Numerals.{add-one}
use lib.ListN.{length, get_or, take, drop, drop_of_length-le}
use lib.Seq.{sets, length-sets, drop-cons}
use borrow.Rule.Slice.PartMut.{put_mid}
use Rattle.play.specs.declared.Moved.{Moved as Played}
use Rattle.play.specs.Mirror.Masks.{both}
use Rattle.play.specs.Mirror.Step.{stepped_by, stepped}
use Rattle.play.proofs.Promises.{met_by_table}
use Rattle.engine.specs.Mirror.Feed.{Table, record_of, fed_from, plays_on}
use Rattle.engine.proofs.Buffers.{sets_append, put_back}

module _ (F G : List ℕ) (L R root : ℕ) where
  -- a step that looks its event up
  by_table : {table : List ℕ} → Table F L table → (a : ℕ) → a < 256 → (A : ℕ)
      → stepped_by F G R root (both A (get_or table a 0)) A ≡ stepped F G L R root a A
  unfolding stepped
  by_table t a h A = rw (t.at a h, met_by_table F L a A) refl

  -- ---- the answers of a feed, by its first event

  module _ (A : ℕ) (events : List ℕ) (i : ℕ) where
    fed_none : length events ≤ i → fed_from F G L R root A (drop i events) ≡ []
    unfolding fed_from
    fed_none h = rw (drop_of_length-le events h)

    plays_none : length events ≤ i → plays_on F G L R root A (drop i events) ≡ A
    unfolding plays_on
    plays_none h = rw (drop_of_length-le events h)

    module _ (h : i < length events) {m : Played} (e : m ≡ stepped F G L R root (get_or events i 0) A) where
      -- from an event's place on: its record at that place, and the rest behind it
      fed_more : (buffer : List ℕ) (at : ℕ)
          → sets buffer at (fed_from F G L R root A (drop i events))
          ≡ sets (sets buffer at (record_of m)) (at + 7) (fed_from F G L R root m.active (drop (i + 1) events))
      unfolding fed_from
      fed_more buffer at =
          rw (drop-cons events i 0 h, ← e, add-one i)
          (sets_append buffer at (record_of m) (fed_from F G L R root m.active (drop (suc i) events)))

      plays_more : plays_on F G L R root A (drop i events) ≡ plays_on F G L R root m.active (drop (i + 1) events)
      unfolding plays_on
      plays_more = rw (drop-cons events i 0 h, e, add-one i) refl

  -- ---- the loop's invariant

  pub record Feeding (events : List ℕ) (place A₀ : ℕ) (answers₀ answers : List ℕ) (A at i : ℕ) : Type 0 where
    pub inside : i ≤ length events
    pub there : at ≡ place + 7 * i
    pub long : length answers ≡ length answers₀
    pub plays : plays_on F G L R root A (drop i events) ≡ plays_on F G L R root A₀ events
    pub rest : sets answers at (fed_from F G L R root A (drop i events)) ≡ sets answers₀ place (fed_from F G L R root A₀ events)

  module _ (events : List ℕ) (place A₀ : ℕ) (answers₀ : List ℕ) where
    pub feeding_begins : Feeding events place A₀ answers₀ answers₀ A₀ place 0
    feeding_begins = record { inside = omega arith; there = omega arith; long = refl; plays = refl; rest = refl }

    module _ {answers : List ℕ} {A at i : ℕ} (now : Feeding events place A₀ answers₀ answers A at i) where
      module _ {table : List ℕ} (t : Table F L table) where
        abbrev next : Played
        next = stepped_by F G R root (both A (get_or table (get_or events i 0) 0)) A

        pub feeding_turn : place + 7 * length events ≤ length answers₀ → i < length events → get_or events i 0 < 256
            → (A' : ℕ) → A' ≡ next.active
            → (back : List ℕ) → back ≡ sets (take (length answers - at) (drop at answers)) 0 (record_of next)
            → Feeding events place A₀ answers₀ (put_mid at (length answers - at) answers back) A' (at + 7) (i + 1)
        feeding_turn room h byte A' is back put =
            let there = now.there in
            let long = now.long in
            let e = by_table t (get_or events i 0) byte A in
            let written = put_back answers at (record_of next) back (omega arith) put in
            rw is
            (record {
              inside = omega arith;
              there = omega arith;
              long = ap length written ∙ length-sets answers at (record_of next) ∙ long;
              plays = sym (plays_more A events i h e) ∙ now.plays;
              rest = rw written (sym (fed_more A events i h e answers at) ∙ now.rest);
            })

      pub feeding_ended : length events ≤ i
          → (A ≡ plays_on F G L R root A₀ events) × (answers ≡ sets answers₀ place (fed_from F G L R root A₀ events))
      feeding_ended h = (rw (plays_none A events i h) at now.plays, rw (fed_none A events i h) at now.rest)
