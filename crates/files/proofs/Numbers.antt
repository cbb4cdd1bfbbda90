-- The number that a file gets, and the line of document 01's table that holds of it, for every kind of file: each follows from the other.
use Prim.Native.Nat.{ℕ, suc, ◌+◌, ◌<◌, ◌≤◌}
use mathlib.Core.Path.{◌≡◌, refl, sym, ap, subst}
use mathlib.Core.Logic.{◌≢◌, ◌⊎◌, ◌⊎◌.inl, ◌⊎◌.inr, ⊎_elim, ◌↔◌}
use mathlib.Core.List.{List, [], ◌∷◌}
use native.Mathlib.Omega.{arith}
use lib.ListN.{length, length-append}
use Rattle.std.specs.Prelude.{Ok, Err}
use Rattle.records.specs.declared.Contents.{Contents}
use Rattle.records.specs.declared.Next.TheVariants.{Passed, Record}
use Rattle.records.specs.declared.refusal.Refusal.{Refusal}
use Rattle.records.specs.Refusals.{number_of}
use Rattle.records.specs.Fields.{word_at}
use Rattle.records.specs.Kinds.{most_of}
use Rattle.records.specs.Next.{wanted}
use Rattle.records.specs.Walk.{Found, found}
use Rattle.records.specs.Says.{Room, Header, Listed, Measured}
use Rattle.records.specs.Says.{Stands, Sound, Sound.start, Sound.passed, Sound.counted}
use Rattle.records.specs.Says.{Says, Says.accepted, Says.empty, Says.refused, Says.body_refused}
use Rattle.records.specs.Says.{Stands.ended, Stands.too_many, Stands.no_header, Stands.not_listed, Stands.wrong_length, Stands.cut_short, Stands.whole}
use Rattle.records.proofs.Walks.{says_within}
use Rattle.files.specs.Says.{At, Accepted, TooMany, NoHeader, CutShort, NotListed, WrongLength, Whole}

-- no record is passed over
pub never_passed : {s : List ℕ} {contents : Contents} {pos count next : ℕ} → Stands s contents pos count (Ok (Passed next)) → ⊥
never_passed h = elim h [ ]

-- what stands at a place that gets the number n for its header
data Numbered (s : List ℕ) (contents : Contents) (pos count : ℕ) : ℕ → Type 0 where
  many : pos < length s → most_of contents ≤ count → Numbered s contents pos count 7
  short : Room s contents pos count → length s < pos + 4 → Numbered s contents pos count 2
  unlisted : Header s contents pos count → wanted s contents pos ≡ 0 → Numbered s contents pos count 3
  other : Listed s contents pos count → word_at s pos 0 ≢ wanted s contents pos → Numbered s contents pos count 4
  cut : Measured s contents pos count → length s < pos + word_at s pos 0 → Numbered s contents pos count 2

numbered : {s : List ℕ} {contents : Contents} {pos count n : ℕ} {r : Refusal} → Stands s contents pos count (Err r) → number_of r ≡ n
    → Numbered s contents pos count n
numbered {s} {contents} {pos} {count} (too_many more few) e = subst (Numbered s contents pos count) e (many more few)
numbered {s} {contents} {pos} {count} (no_header room h) e = subst (Numbered s contents pos count) e (short room h)
numbered {s} {contents} {pos} {count} (not_listed header h) e = subst (Numbered s contents pos count) e (unlisted header h)
numbered {s} {contents} {pos} {count} (wrong_length listed h) e = subst (Numbered s contents pos count) e (other listed h)
numbered {s} {contents} {pos} {count} (cut_short measured h) e = subst (Numbered s contents pos count) e (cut measured h)

-- no body gets the number k
abbrev Never : (ℕ → List ℕ → ℕ → Type 0) → ℕ → Type 0
Never Body k = (pos : ℕ) (ps : List ℕ) → Body pos ps k → ⊥

module _ (s : List ℕ) (contents : Contents) (Body : ℕ → List ℕ → ℕ → Type 0) where
  -- a whole record whose body gets the number k
  abbrev Faulty : ℕ → Type 0
  Faulty k = (w : Whole s contents Body) × Body w.at.pos w.at.ps k

  -- before the first record stands nothing
  sound_first : {ps : List ℕ} {pos : ℕ} → Sound s contents Body ps pos → length ps ≡ 0 → pos ≡ 0
  sound_first start e = refl
  sound_first (passed before stands) e = absurd (never_passed stands)
  sound_first (counted {ps} {pos} before stands fine) e = absurd (omega (arith, length-append ps (pos ∷ [])))

  abbrev here : {ps : List ℕ} {pos : ℕ} → Sound s contents Body ps pos → At s contents Body
  here {ps} {pos} before = record { ps = ps; pos = pos; sound = before }

  faulty : {ps : List ℕ} {pos next k : ℕ} → Sound s contents Body ps pos → Stands s contents pos (length ps) (Ok (Record next)) → Body pos ps k → Faulty k
  faulty before (whole measured inside) fault = (record { at = here before; measured = measured; inside = inside }, fault)

  says_1 : {pos : ℕ} {ps : List ℕ} → Says s contents Body (found 1 pos ps) → Never Body 1 → length s ≡ 0
  says_1 (empty before (ended h)) never = let e = sound_first before refl in omega arith
  says_1 (body_refused before stands fault) never = absurd (never _ _ fault)
  says_1 (refused before stands e) never = elim (numbered stands e) [ ]

  module _ {pos : ℕ} {ps : List ℕ} where
    at_2 : Sound s contents Body ps pos → Numbered s contents pos (length ps) 2 → NoHeader s contents Body ⊎ CutShort s contents Body
    at_2 before (short room h) = inl (record { at = here before; room = room; short = h })
    at_2 before (cut measured h) = inr (record { at = here before; measured = measured; short = h })

    at_3 : Sound s contents Body ps pos → Numbered s contents pos (length ps) 3 → NotListed s contents Body
    at_3 before (unlisted header h) = record { at = here before; header = header; unlisted = h }

    at_4 : Sound s contents Body ps pos → Numbered s contents pos (length ps) 4 → WrongLength s contents Body
    at_4 before (other listed h) = record { at = here before; listed = listed; other = h }

    at_7 : Sound s contents Body ps pos → Numbered s contents pos (length ps) 7 → length ps ≤ most_of contents → TooMany s contents Body
    at_7 before (many more h) few = record { at = here before; full = omega arith; more = more }

    says_0 : Says s contents Body (found 0 pos ps) → pos ≤ length s → length ps ≤ most_of contents → Accepted s contents Body
    says_0 (accepted before (ended h) some) inside few = record { at = here before; ends = omega arith; some = some; few = few }
    says_0 (refused before stands e) inside few = elim (numbered stands e) [ ]

    says_2 : Says s contents Body (found 2 pos ps) → Never Body 2 → NoHeader s contents Body ⊎ CutShort s contents Body
    says_2 (refused before stands e) never = at_2 before (numbered stands e)
    says_2 (body_refused before stands fault) never = absurd (never _ _ fault)

    says_3 : Says s contents Body (found 3 pos ps) → Never Body 3 → NotListed s contents Body
    says_3 (refused before stands e) never = at_3 before (numbered stands e)
    says_3 (body_refused before stands fault) never = absurd (never _ _ fault)

    says_4 : Says s contents Body (found 4 pos ps) → Never Body 4 → WrongLength s contents Body
    says_4 (refused before stands e) never = at_4 before (numbered stands e)
    says_4 (body_refused before stands fault) never = absurd (never _ _ fault)

    says_5 : Says s contents Body (found 5 pos ps) → Faulty 5
    says_5 (body_refused before stands fault) = faulty before stands fault
    says_5 (refused before stands e) = elim (numbered stands e) [ ]

    says_6 : Says s contents Body (found 6 pos ps) → Faulty 6
    says_6 (body_refused before stands fault) = faulty before stands fault
    says_6 (refused before stands e) = elim (numbered stands e) [ ]

    says_7 : Says s contents Body (found 7 pos ps) → Never Body 7 → length ps ≤ most_of contents → TooMany s contents Body
    says_7 (refused before stands e) never few = at_7 before (numbered stands e) few
    says_7 (body_refused before stands fault) never few = absurd (never _ _ fault)

    says_14 : Says s contents Body (found 14 pos ps) → Faulty 14
    says_14 (body_refused before stands fault) = faulty before stands fault
    says_14 (refused before stands e) = elim (numbered stands e) [ ]

  -- what holds of the numbers of records, and of those of bodies, holds of the file's
  module _ (P : ℕ → Type 0) (p0 : P 0) (p1 : P 1) (p2 : P 2) (p3 : P 3) (p4 : P 4) (p7 : P 7)
      (body : (pos : ℕ) (ps : List ℕ) (n : ℕ) → Body pos ps n → P n) where
    all_numbered : {pos count n : ℕ} → Numbered s contents pos count n → P n
    all_numbered (many more h) = p7
    all_numbered (short room h) = p2
    all_numbered (unlisted header h) = p3
    all_numbered (other listed h) = p4
    all_numbered (cut measured h) = p2

    pub says_all : {f : Found} → Says s contents Body f → P f.number
    says_all (accepted before stands some) = p0
    says_all (empty before stands) = p1
    says_all (refused before stands e) = all_numbered (numbered stands e)
    says_all (body_refused before stands fault) = body _ _ _ fault

-- what the number is equal to may be written for it
pub with_number : {s : List ℕ} {contents : Contents} {Body : ℕ → List ℕ → ℕ → Type 0} {f : Found} {k : ℕ} → Says s contents Body f → f.number ≡ k
    → Says s contents Body (found k f.place f.places)
with_number {s} {contents} {Body} {f} says e = subst (λ (k : ℕ). Says s contents Body (found k f.place f.places)) e says

-- ---- where f is what the file says, and nothing else is

pub record Only (s : List ℕ) (contents : Contents) (Body : ℕ → List ℕ → ℕ → Type 0) (f : Found) : Type 0 where
  pub says : Says s contents Body f
  pub one : (g : Found) → Says s contents Body g → g ≡ f

module _ {s : List ℕ} {contents : Contents} {Body : ℕ → List ℕ → ℕ → Type 0} {f : Found} (only : Only s contents Body f) where
  is : {k pos : ℕ} {ps : List ℕ} → Says s contents Body (found k pos ps) → f.number ≡ k
  is h = sym (ap (λ (g : Found). g.number) (only.one _ h))

  faulty_is : {k : ℕ} → Faulty s contents Body (suc k) → f.number ≡ suc k
  faulty_is (w, fault) = is (body_refused w.at.sound (whole w.measured w.inside) fault)

  within : (f.place ≤ length s) × (length f.places ≤ most_of contents)
  within = says_within s contents Body only.says

  pub number_0 : (f.number ≡ 0) ↔ Accepted s contents Body
  number_0 = (
    λ e. says_0 s contents Body (with_number only.says e) within.0 within.1,
    λ h. let e = h.ends in is (accepted h.at.sound (ended (omega arith)) h.some),
  )

  pub number_1 : Never Body 1 → (f.number ≡ 1) ↔ (length s ≡ 0)
  number_1 never = (λ e. says_1 s contents Body (with_number only.says e) never, λ e. is (empty start (ended (omega arith))))

  pub number_2 : Never Body 2 → (f.number ≡ 2) ↔ (NoHeader s contents Body ⊎ CutShort s contents Body)
  number_2 never = (
    λ e. says_2 s contents Body (with_number only.says e) never,
    ⊎_elim (λ h. is (refused h.at.sound (no_header h.room h.short) refl)) (λ h. is (refused h.at.sound (cut_short h.measured h.short) refl)),
  )

  pub number_3 : Never Body 3 → (f.number ≡ 3) ↔ NotListed s contents Body
  number_3 never = (λ e. says_3 s contents Body (with_number only.says e) never, λ h. is (refused h.at.sound (not_listed h.header h.unlisted) refl))

  pub number_4 : Never Body 4 → (f.number ≡ 4) ↔ WrongLength s contents Body
  number_4 never = (λ e. says_4 s contents Body (with_number only.says e) never, λ h. is (refused h.at.sound (wrong_length h.listed h.other) refl))

  pub number_5 : (f.number ≡ 5) ↔ Faulty s contents Body 5
  number_5 = (λ e. says_5 s contents Body (with_number only.says e), faulty_is)

  pub number_6 : (f.number ≡ 6) ↔ Faulty s contents Body 6
  number_6 = (λ e. says_6 s contents Body (with_number only.says e), faulty_is)

  pub number_7 : Never Body 7 → (f.number ≡ 7) ↔ TooMany s contents Body
  number_7 never = (
    λ e. says_7 s contents Body (with_number only.says e) never within.1,
    λ h. let full = h.full in is (refused h.at.sound (too_many h.more (omega arith)) refl),
  )

  pub number_14 : (f.number ≡ 14) ↔ Faulty s contents Body 14
  number_14 = (λ e. says_14 s contents Body (with_number only.says e), faulty_is)
