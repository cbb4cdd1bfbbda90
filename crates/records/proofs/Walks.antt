-- `walked_says`, `says_one`: a file says what the walk finds, and nothing else. `Going`: the invariant of a loop that reads a file into a lent table.
use Prim.Native.Nat.{ℕ, zero, suc, ◌+◌, ◌≤◌, ◌<◌}
use mathlib.Core.Path.{◌≡◌, refl, sym, ap, ◌∙◌}
use mathlib.Core.List.{List, [], ◌∷◌, ◌++◌}
use native.Mathlib.Omega.{arith}
use borrow.Author.Tests.{ne_eqb}
use lib.ListN.{length, take, drop, set, length-append, length-set, take-append-drop}
use lib.Seq.{length-take-le}
use lib.Dec.{eqb-suc-zero}
use Rattle.std.specs.Prelude.{Result, Ok, Err}
use Rattle.records.specs.declared.Contents.{Contents}
use Rattle.records.specs.declared.Next.{Next}
use Rattle.records.specs.declared.Next.TheVariants.{End, Passed, Record}
use Rattle.records.specs.declared.refusal.Refusal.{Refusal}
use Rattle.records.specs.Kinds.{most_of}
use Rattle.records.specs.Next.{next_at}
use Rattle.records.specs.Walk.{Found, found, Turn, Turn.stop, Turn.past, Turn.on, turn_by, turn, follow, walk, walked, ReadTo}
use Rattle.records.specs.Says.{Stands, Sound, Sound.start, Sound.passed, Sound.counted}
use Rattle.records.specs.Says.{Says, Says.accepted, Says.empty, Says.refused, Says.body_refused}
use Rattle.records.proofs.Says.{next_stands, stands_next, stands_onward}
use Rattle.records.proofs.Lists.{front_more, behind_more}

-- ---- the walk that has come to a place: what is left of it is the whole

-- at pos, behind the records at ps, with fuel left
pub record Walking (turns : ℕ → List ℕ → Turn) (size pos : ℕ) (ps : List ℕ) : Type 0 where
  pub inside : pos ≤ size
  pub fuel : ℕ
  pub enough : size < pos + fuel
  pub goes : walk turns fuel pos ps ≡ walked turns size

pub walking_start : (turns : ℕ → List ℕ → Turn) (size : ℕ) → Walking turns size 0 []
unfolding walked
walking_start turns size = record { inside = omega arith; fuel = suc size; enough = omega arith; goes = refl }

unrolled : (turns : ℕ → List ℕ → Turn) (fuel size pos : ℕ) (ps : List ℕ) → size < pos + fuel → pos ≤ size
    → (f : ℕ) × (fuel ≡ suc f) × (walk turns fuel pos ps ≡ follow pos ps (turns pos ps) (walk turns f))
unfolding walk
unrolled turns zero size pos ps h i = absurd (omega arith)
unrolled turns (suc f) size pos ps h i = (f, refl, refl)

module _ {turns : ℕ → List ℕ → Turn} {size pos : ℕ} {ps : List ℕ} (w : Walking turns size pos ps) where
  turned : (o : Turn) → turns pos ps ≡ o → (f : ℕ) × (w.fuel ≡ suc f) × (follow pos ps o (walk turns f) ≡ walked turns size)
  turned o e =
      let u = unrolled turns w.fuel size pos ps w.enough w.inside in
      (u.0, u.1, rw (← e) (sym u.2 ∙ w.goes))

  pub walking_stop : (n : ℕ) → turns pos ps ≡ stop n → found n pos ps ≡ walked turns size
  unfolding follow
  walking_stop n e = (turned (stop n) e).2

  pub walking_past : (next : ℕ) → turns pos ps ≡ past next → pos < next → next ≤ size → Walking turns size next ps
  unfolding follow
  walking_past next e onward inside =
      let u = turned (past next) e in
      let d = u.1 in
      record { inside = inside; fuel = u.0; enough = omega arith; goes = u.2 }

  pub walking_on : (next : ℕ) → turns pos ps ≡ on next → pos < next → next ≤ size → Walking turns size next (ps ++ (pos ∷ []))
  unfolding follow
  walking_on next e onward inside =
      let u = turned (on next) e in
      let d = u.1 in
      record { inside = inside; fuel = u.0; enough = omega arith; goes = u.2 }

-- ---- what a file says

pub turn_is : (s : List ℕ) (contents : Contents) (body : ℕ → List ℕ → ℕ) (pos : ℕ) (ps : List ℕ) {o : Result Next Refusal} {count b : ℕ}
    → o ≡ next_at s contents pos count → length ps ≡ count → body pos ps ≡ b → turn s contents body pos ps ≡ turn_by o count b
unfolding turn
turn_is s contents body pos ps e few fine = rw (few, fine, ← e)

module _ (s : List ℕ) (contents : Contents) (Body : ℕ → List ℕ → ℕ → Type 0) where
  sound_within : {ps : List ℕ} {pos : ℕ} → Sound s contents Body ps pos → (pos ≤ length s) × (length ps ≤ most_of contents)
  sound_within start = (omega arith, omega arith)
  sound_within (passed before stands) = ((stands_onward stands).1, (sound_within before).1)
  sound_within (counted {ps} {pos} before stands fine) =
      let onward = stands_onward stands in
      (onward.1, simp length-append (omega arith))

  pub says_within : {f : Found} → Says s contents Body f → (f.place ≤ length s) × (length f.places ≤ most_of contents)
  says_within (accepted before stands some) = sound_within before
  says_within (empty before stands) = sound_within before
  says_within (refused before stands e) = sound_within before
  says_within (body_refused before stands fault) = sound_within before

  -- one turn says what the rest says
  follow_says : (pos : ℕ) (ps : List ℕ) (o : Result Next Refusal) (b : ℕ) (rest : ℕ → List ℕ → Found)
      → Sound s contents Body ps pos → Stands s contents pos (length ps) o → Body pos ps b
      → ((next : ℕ) (qs : List ℕ) → Sound s contents Body qs next → pos < next → next ≤ length s → Says s contents Body (rest next qs))
      → Says s contents Body (follow pos ps (turn_by o (length ps) b) rest)
  unfolding follow
  follow_says pos [] (Ok End) b rest before stands fine says = empty before stands
  follow_says pos (p ∷ ps) (Ok End) b rest before stands fine says = rw (eqb-suc-zero (length ps)) (accepted before stands (omega arith))
  follow_says pos ps (Err r) b rest before stands fine says = refused before stands refl
  follow_says pos ps (Ok (Passed next)) b rest before stands fine says =
      let onward = stands_onward stands in
      says next ps (passed before stands) onward.0 onward.1
  follow_says pos ps (Ok (Record next)) zero rest before stands fine says =
      let onward = stands_onward stands in
      says next (ps ++ (pos ∷ [])) (counted before stands fine) onward.0 onward.1
  follow_says pos ps (Ok (Record next)) (suc n) rest before stands fine says = rw (eqb-suc-zero n) (body_refused before stands fine)

  module _ (body : ℕ → List ℕ → ℕ) (sound : (pos : ℕ) (ps : List ℕ) → Body pos ps (body pos ps)) where
    walk_says : (fuel pos : ℕ) (ps : List ℕ) → Sound s contents Body ps pos → pos ≤ length s → length s < pos + fuel
        → Says s contents Body (walk (turn s contents body) fuel pos ps)
    unfolding walk turn
    walk_says zero pos ps before inside enough = absurd (omega arith)
    walk_says (suc fuel) pos ps before inside enough =
        follow_says pos ps (next_at s contents pos (length ps)) (body pos ps) (walk (turn s contents body) fuel) before
        (next_stands s contents pos (length ps)) (sound pos ps)
        (λ next qs after onward within. walk_says fuel next qs after within (omega arith))

    pub walked_says : Says s contents Body (walked (turn s contents body) (length s))
    unfolding walked
    walked_says = walk_says (suc (length s)) 0 [] start (omega arith) (omega arith)

    module _ (one : (pos : ℕ) (ps : List ℕ) (n m : ℕ) → Body pos ps n → Body pos ps m → n ≡ m) where
      body_is : {pos : ℕ} {ps : List ℕ} {n : ℕ} → Body pos ps n → body pos ps ≡ n
      body_is {pos} {ps} {n} fine = one pos ps (body pos ps) n (sound pos ps) fine

      sound_walking : {ps : List ℕ} {pos : ℕ} → Sound s contents Body ps pos → Walking (turn s contents body) (length s) pos ps
      sound_walking start = walking_start (turn s contents body) (length s)
      sound_walking (passed {next = next} before stands) =
          let onward = stands_onward stands in
          walking_past (sound_walking before) next (turn_is _ _ _ _ _ (stands_next stands) refl refl) onward.0 onward.1
      sound_walking (counted {next = next} before stands fine) =
          let onward = stands_onward stands in
          walking_on (sound_walking before) next (turn_is _ _ _ _ _ (stands_next stands) refl (body_is fine)) onward.0 onward.1

      -- whatever is said is what the walk finds
      says_walked : {f : Found} → Says s contents Body f → f ≡ walked (turn s contents body) (length s)
      says_walked (accepted {ps} before stands some) =
          walking_stop (sound_walking before) 0 (turn_is _ _ _ _ _ (stands_next stands) refl refl ∙ simp (ne_eqb (length ps) 0 (omega arith)))
      says_walked (empty before stands) = walking_stop (sound_walking before) 1 (turn_is _ _ _ _ _ (stands_next stands) refl refl)
      says_walked (refused {n = n} before stands e) = walking_stop (sound_walking before) n (turn_is _ _ _ _ _ (stands_next stands) refl refl ∙ ap stop e)
      says_walked (body_refused {n = n} before stands fault) =
          walking_stop (sound_walking before) (suc n) (turn_is _ _ _ _ _ (stands_next stands) refl (body_is fault) ∙ simp eqb-suc-zero)

      pub says_one : {f g : Found} → Says s contents Body f → Says s contents Body g → f ≡ g
      says_one p q = says_walked p ∙ sym (says_walked q)

-- ---- a loop that reads a file into a lent table

-- n records, at most limit, are in the table, and behind them it is as it was
pub record Going (turns : ℕ → List ℕ → Turn) (size limit : ℕ) (was at : List ℕ) (pos n : ℕ) : Type 0 where
  pub few : n ≤ limit
  pub room : limit ≤ length at
  pub same : length at ≡ length was
  pub rest : drop n at ≡ drop n was
  pub walking : Walking turns size pos (take n at)

pub going_start : (turns : ℕ → List ℕ → Turn) (size limit : ℕ) (was : List ℕ) → limit ≤ length was → Going turns size limit was was 0 0
going_start turns size limit was h =
    record { few = omega arith; room = h; same = refl; rest = refl; walking = walking_start turns size }

module _ {turns : ℕ → List ℕ → Turn} {size limit : ℕ} {was at : List ℕ} {pos n : ℕ} (g : Going turns size limit was at pos n) where
  pub taken : length (take n at) ≡ n
  taken = let few = g.few in let room = g.room in length-take-le n at (omega arith)

  pub stops : (m : ℕ) → turns pos (take n at) ≡ stop m → ReadTo (walked turns size) m n pos was at
  stops m e =
      rw (← walking_stop g.walking m e)
      (record { number_is = refl; count_is = sym taken; place_is = refl; table_is = rw (taken, ← g.rest) (sym (take-append-drop n at)) })

  pub goes_past : (next : ℕ) → turns pos (take n at) ≡ past next → pos < next → next ≤ size → Going turns size limit was at next n
  goes_past next e onward inside =
      record { few = g.few; room = g.room; same = g.same; rest = g.rest; walking = walking_past g.walking next e onward inside }

  pub goes_on : (next : ℕ) → turns pos (take n at) ≡ on next → n < limit → pos < next → next ≤ size
      → Going turns size limit was (set at n pos) next (n + 1)
  goes_on next e few onward inside =
      let room = g.room in
      let same = length-set at n pos in
      record {
        few = omega arith;
        room = omega arith;
        same = same ∙ g.same;
        rest = behind_more at was n pos g.rest;
        walking = rw (front_more at n pos (omega arith)) (walking_on g.walking next e onward inside);
      }
