-- What document 01 says of a file, by cases: the tests that a place passed, and the one that it did not. `next_at` and `walked` compute it.
use Rattle.std.specs.Prelude.{ℕ, suc, ◌+◌, ◌<◌, ◌≤◌, ◌≡◌, ◌≢◌, List, [], ◌∷◌, ◌++◌, Result, Ok, Err, length}
use Rattle.records.specs.declared.Contents.{Contents}
use Rattle.records.specs.declared.Next.{Next}
use Rattle.records.specs.declared.Next.TheVariants.{End, Passed, Record}
use Rattle.records.specs.declared.refusal.Refusal.{Refusal}
use Rattle.records.specs.declared.refusal.Refusal.TheVariants.{TooManyRecords, CutShort, UnknownKind, WrongLength}
use Rattle.records.specs.Refusals.{number_of}
use Rattle.records.specs.Fields.{word_at}
use Rattle.records.specs.Kinds.{most_of}
use Rattle.records.specs.Next.{wanted}
use Rattle.records.specs.Walk.{Found, found}

-- ---- one place, with count records before it

-- a record may stand here
pub record Room (s : List ℕ) (contents : Contents) (pos count : ℕ) : Type 0 where
  pub more : pos < length s
  pub few : count < most_of contents

-- and its header is there
pub record Header (s : List ℕ) (contents : Contents) (pos count : ℕ) : Type 0 where
  pub room : Room s contents pos count
  pub four : pos + 4 ≤ length s

-- and its kind is in the list
pub record Listed (s : List ℕ) (contents : Contents) (pos count : ℕ) : Type 0 where
  pub header : Header s contents pos count
  pub kind : wanted s contents pos ≢ 0

-- and its length is that kind's
pub record Measured (s : List ℕ) (contents : Contents) (pos count : ℕ) : Type 0 where
  pub listed : Listed s contents pos count
  pub exact : word_at s pos 0 ≡ wanted s contents pos

pub data Stands (s : List ℕ) (contents : Contents) (pos count : ℕ) : Result Next Refusal → Type 0 where
  ended : length s ≤ pos → Stands s contents pos count (Ok End)
  too_many : pos < length s → most_of contents ≤ count → Stands s contents pos count (Err TooManyRecords)
  no_header : Room s contents pos count → length s < pos + 4 → Stands s contents pos count (Err CutShort)
  not_listed : Header s contents pos count → wanted s contents pos ≡ 0 → Stands s contents pos count (Err UnknownKind)
  wrong_length : Listed s contents pos count → word_at s pos 0 ≢ wanted s contents pos → Stands s contents pos count (Err WrongLength)
  cut_short : Measured s contents pos count → length s < pos + word_at s pos 0 → Stands s contents pos count (Err CutShort)
  whole : Measured s contents pos count → pos + word_at s pos 0 ≤ length s → Stands s contents pos count (Ok (Record (pos + word_at s pos 0)))

-- ---- the whole file, where Body pos ps n says that the record at pos, behind those at ps, gets the number n for its body (0: none)

module _ (s : List ℕ) (contents : Contents) (Body : ℕ → List ℕ → ℕ → Type 0) where
  -- the records at ps, read from the front, are without fault, and the next begins at pos
  pub data Sound : List ℕ → ℕ → Type 0 where
    start : Sound [] 0
    passed : {ps : List ℕ} {pos next : ℕ} → Sound ps pos → Stands s contents pos (length ps) (Ok (Passed next)) → Sound ps next
    counted : {ps : List ℕ} {pos next : ℕ} → Sound ps pos → Stands s contents pos (length ps) (Ok (Record next)) → Body pos ps 0
        → Sound (ps ++ (pos ∷ [])) next

  -- the first fault decides; a file without one is accepted where it has a record
  pub data Says : Found → Type 0 where
    accepted : {ps : List ℕ} {pos : ℕ} → Sound ps pos → Stands s contents pos (length ps) (Ok End) → 0 < length ps → Says (found 0 pos ps)
    empty : {pos : ℕ} → Sound [] pos → Stands s contents pos 0 (Ok End) → Says (found 1 pos [])
    refused : {ps : List ℕ} {pos n : ℕ} {r : Refusal} → Sound ps pos → Stands s contents pos (length ps) (Err r) → number_of r ≡ n
        → Says (found n pos ps)
    body_refused : {ps : List ℕ} {pos next n : ℕ} → Sound ps pos → Stands s contents pos (length ps) (Ok (Record next)) → Body pos ps (suc n)
        → Says (found (suc n) pos ps)
