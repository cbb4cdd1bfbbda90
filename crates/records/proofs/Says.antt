-- `next_stands`: what `next_at` computes at a place is what stands there; `stands_one`: nothing else does. A record that stands leads onward inside the file.
use Prim.Native.Nat.{ℕ, ◌+◌, ◌-◌, ◌<◌, ◌≤◌}
use mathlib.Core.Path.{◌≡◌, refl, sym, ◌∙◌}
use mathlib.Core.Logic.{◌≢◌}
use mathlib.Core.List.{List}
use mathlib.Core.Bool.{not}
use native.Mathlib.Omega.{arith}
use borrow.Author.Tests.{lt-ltb, le-ltb, le-leb, lt-leb, eq-eqb, ne_eqb, ltb-true, ltb-false, leb-true, leb-false, eqb-true, eqb-false, not-true, not-false}
use lib.ListN.{length}
use lib.Dec.{leb, ltb, eqb}
use Rattle.std.specs.Prelude.{Result, Ok, Err, Some}
use Rattle.records.specs.declared.Contents.{Contents}
use Rattle.records.specs.declared.Next.{Next}
use Rattle.records.specs.declared.Next.TheVariants.{End, Passed, Record}
use Rattle.records.specs.declared.refusal.Refusal.{Refusal}
use Rattle.records.specs.declared.refusal.Refusal.TheVariants.{TooManyRecords, CutShort, UnknownKind, WrongLength}
use Rattle.records.specs.Fields.{word_at}
use Rattle.records.specs.Kinds.{kind_of, length_in, most_of}
use Rattle.records.specs.Next.{next_at}
use Rattle.records.specs.Next.{wanted}
use Rattle.records.specs.Says.{Room, Header, Listed, Measured, Stands}
use Rattle.records.specs.Says.{Stands.ended, Stands.too_many, Stands.no_header, Stands.not_listed, Stands.wrong_length, Stands.cut_short, Stands.whole}
use Rattle.records.proofs.KindTable.{length_long, listed_long}
use Rattle.records.proofs.Tests.{cond_case}

-- ---- what stands is what is computed

pub stands_next : {s : List ℕ} {contents : Contents} {pos count : ℕ} {o : Result Next Refusal} → Stands s contents pos count o → o ≡ next_at s contents pos count
unfolding next_at
stands_next (ended h) = simp le-leb
stands_next (too_many more h) = simp (lt-leb, le-leb)
stands_next {s} {contents} {pos} (no_header room h) =
    let more = room.more in
    let few = room.few in
    let short : length s - pos < 4 = omega arith in
    simp (lt-leb, lt-ltb)
stands_next {s} {contents} {pos} (not_listed header h) =
    let more = header.room.more in
    let few = header.room.few in
    let four : 4 ≤ length s - pos = omega arith in
    simp (lt-leb, le-ltb, eq-eqb)
stands_next {s} {contents} {pos} (wrong_length listed h) =
    let more = listed.header.room.more in
    let few = listed.header.room.few in
    let four : 4 ≤ length s - pos = omega arith in
    let kind = listed.kind in
    simp (lt-leb, le-ltb, ne_eqb)
stands_next {s} {contents} {pos} (cut_short measured h) =
    let more = measured.listed.header.room.more in
    let few = measured.listed.header.room.few in
    let four : 4 ≤ length s - pos = omega arith in
    let kind = measured.listed.kind in
    let exact = measured.exact in
    let short : length s - pos < word_at s pos 0 = omega arith in
    simp (lt-leb, le-ltb, lt-ltb, ne_eqb, eq-eqb)
stands_next {s} {contents} {pos} (whole measured h) =
    let more = measured.listed.header.room.more in
    let few = measured.listed.header.room.few in
    let four : 4 ≤ length s - pos = omega arith in
    let kind = measured.listed.kind in
    let exact = measured.exact in
    let enough : word_at s pos 0 ≤ length s - pos = omega arith in
    simp (lt-leb, le-ltb, ne_eqb, eq-eqb)

pub next_stands : (s : List ℕ) (contents : Contents) (pos count : ℕ) → Stands s contents pos count (next_at s contents pos count)
unfolding next_at
next_stands s contents pos count =
    let S = Stands s contents pos count in
    let left = length s - pos in
    let size = word_at s pos 0 in
    let want = wanted s contents pos in
    cond_case S (leb (length s) pos) (Ok End) _ (λ e. ended (leb-true (length s) pos e))
    (λ e0.
    let more = leb-false (length s) pos e0 in
    cond_case S (leb (most_of contents) count) (Err TooManyRecords) _ (λ e. too_many more (leb-true (most_of contents) count e))
    (λ e1.
    let room : Room s contents pos count = record { more = more; few = leb-false (most_of contents) count e1 } in
    cond_case S (ltb left 4) (Err CutShort) _ (λ e. let h = ltb-true left 4 e in no_header room (omega arith))
    (λ e2.
    let h = ltb-false left 4 e2 in
    let header : Header s contents pos count = record { room = room; four = omega arith } in
    cond_case S (eqb want 0) (Err UnknownKind) _ (λ e. not_listed header (eqb-true want 0 e))
    (λ e3.
    let listed : Listed s contents pos count = record { header = header; kind = eqb-false want 0 e3 } in
    cond_case S (not (eqb size want)) (Err WrongLength) _ (λ e. wrong_length listed (eqb-false size want (not-true (eqb size want) e)))
    (λ e4.
    let measured : Measured s contents pos count = record { listed = listed; exact = eqb-true size want (not-false (eqb size want) e4) } in
    cond_case S (ltb left size) (Err CutShort) (Ok (Record (pos + size))) (λ e. let h = ltb-true left size e in cut_short measured (omega arith))
    (λ e5. let h = ltb-false left size e5 in whole measured (omega arith)))))))

pub stands_one : {s : List ℕ} {contents : Contents} {pos count : ℕ} {o o' : Result Next Refusal} → Stands s contents pos count o → Stands s contents pos count o' → o ≡ o'
stands_one p q = stands_next p ∙ sym (stands_next q)

-- ---- a record that stands is long enough to go on

pub wanted_long : (s : List ℕ) (contents : Contents) (pos : ℕ) → wanted s contents pos ≢ 0 → 4 ≤ wanted s contents pos
wanted_long s contents pos = length_long contents (word_at s pos 2)

-- a length that the table gives
pub listed_length : (s : List ℕ) (contents : Contents) (pos n : ℕ) → length_in contents (kind_of (word_at s pos 2)) ≡ Some n
    → (wanted s contents pos ≡ n) × (4 ≤ n)
listed_length s contents pos n e = (rw e refl, listed_long contents (word_at s pos 2) n e)

-- what is known of the place where the next record begins
abbrev pub Onward : List ℕ → Contents → ℕ → ℕ → Result Next Refusal → Type 0
Onward s contents pos count (Ok End) = Unit {0}
Onward s contents pos count (Err r) = Unit {0}
Onward s contents pos count (Ok (Passed next)) = (pos < next) × (next ≤ length s)
Onward s contents pos count (Ok (Record next)) = (pos < next) × (next ≤ length s) × (count < most_of contents)

pub stands_onward : {s : List ℕ} {contents : Contents} {pos count : ℕ} {o : Result Next Refusal} → Stands s contents pos count o → Onward s contents pos count o
stands_onward (ended h) = tt
stands_onward (too_many more h) = tt
stands_onward (no_header room h) = tt
stands_onward (not_listed header h) = tt
stands_onward (wrong_length listed h) = tt
stands_onward (cut_short measured h) = tt
stands_onward {s} {contents} {pos} (whole measured h) =
    let long = wanted_long s contents pos measured.listed.kind in
    (omega arith, h, measured.listed.header.room.few)

pub next_onward : (s : List ℕ) (contents : Contents) (pos count : ℕ) (o : Result Next Refusal) → o ≡ next_at s contents pos count → Onward s contents pos count o
next_onward s contents pos count o e = rw e (stands_onward (next_stands s contents pos count))
