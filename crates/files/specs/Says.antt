-- Document 01's table of numbers, a record for each line. Records are read from the front, the first one at fault decides, and the tests come in one
-- order: so a line speaks of a place that reading comes to, and of the tests that the record there has passed.
use Rattle.std.specs.Prelude.{ℕ, ◌+◌, ◌<◌, ◌≤◌, ◌≡◌, ◌≢◌, List, length, get_or}
use Rattle.par.specs.Records.{Parts}
use Rattle.records.specs.declared.Contents.{Contents}
use Rattle.records.specs.declared.Contents.TheVariants.{Expressions, Pairs}
use Rattle.records.specs.Fields.{word_at}
use Rattle.records.specs.Kinds.{most_of}
use Rattle.records.specs.Constructs.{node_at}
use Rattle.records.specs.Next.{wanted}
use Rattle.records.specs.Says.{Room, Header, Listed, Measured, Sound}
use Rattle.files.specs.Reading.{ExpressionBody, PairBody}

-- ---- every file

module _ (s : List ℕ) (contents : Contents) (Body : ℕ → List ℕ → ℕ → Type 0) where
  -- reading comes to pos: the records at ps, before it, are without fault
  pub record At : Type 0 where
    pub ps : List ℕ
    pub pos : ℕ
    pub sound : Sound s contents Body ps pos

  -- 0: accepted
  pub record Accepted : Type 0 where
    pub at : At
    pub ends : at.pos ≡ length s
    pub some : 1 ≤ length at.ps
    pub few : length at.ps ≤ most_of contents

  -- 7: a record follows the 1,024th, or a pair the 256th
  pub record TooMany : Type 0 where
    pub at : At
    pub full : length at.ps ≡ most_of contents
    pub more : at.pos < length s

  -- 2: fewer than 4 bytes are left,
  pub record NoHeader : Type 0 where
    pub at : At
    pub room : Room s contents at.pos (length at.ps)
    pub short : length s < at.pos + 4

  -- or fewer than the length
  pub record CutShort : Type 0 where
    pub at : At
    pub measured : Measured s contents at.pos (length at.ps)
    pub short : length s < at.pos + word_at s at.pos 0

  -- 3: kind not in this file's list
  pub record NotListed : Type 0 where
    pub at : At
    pub header : Header s contents at.pos (length at.ps)
    pub unlisted : wanted s contents at.pos ≡ 0

  -- 4: length isn't that kind's
  pub record WrongLength : Type 0 where
    pub at : At
    pub listed : Listed s contents at.pos (length at.ps)
    pub other : word_at s at.pos 0 ≢ wanted s contents at.pos

  -- 5, 6 and 14 speak of a record that has passed all of these
  pub record Whole : Type 0 where
    pub at : At
    pub measured : Measured s contents at.pos (length at.ps)
    pub inside : at.pos + word_at s at.pos 0 ≤ length s

-- ---- the expression file

-- 5: x or y isn't an earlier record
pub record NotEarlier (s : List ℕ) : Type 0 where
  pub whole : Whole s Expressions (ExpressionBody s)
  pub later : Parts (λ p. p < length whole.at.ps) (node_at s whole.at.pos) → ⊥

-- 6: same kind and body as an earlier record
pub record SameAgain (s : List ℕ) : Type 0 where
  pub whole : Whole s Expressions (ExpressionBody s)
  pub parts : Parts (λ p. p < length whole.at.ps) (node_at s whole.at.pos)
  pub earlier : ℕ
  pub there : earlier < length whole.at.ps
  pub same : node_at s (get_or whole.at.ps earlier 0) ≡ node_at s whole.at.pos

-- ---- the pair file, over an expression file of n records

-- 14: a pair names a record that isn't there
pub record NotThere (s : List ℕ) (n : ℕ) : Type 0 where
  pub whole : Whole s Pairs (PairBody s n)
  pub missing : (word_at s whole.at.pos 4 < n) × (word_at s whole.at.pos 6 < n) → ⊥
