-- What reading finds is what document 01 says of the file, and nothing else is: for the expression file, and for the pair file. Then each number
-- that a file can get, and what document 01's table says of it.
use Prim.Native.Nat.{ℕ, ◌<◌, ◌≤◌}
use mathlib.Core.Path.{◌≡◌, refl}
use mathlib.Core.Logic.{◌⊎◌, ◌⊎◌.inl, ◌⊎◌.inr, ◌↔◌}
use mathlib.Core.List.{List}
use lib.ListN.{length}
use lib.Dec.{lit≤}
use Rattle.par.specs.Records.{Parts}
use Rattle.records.specs.declared.Contents.TheVariants.{Expressions, Pairs}
use Rattle.records.specs.Fields.{word_at}
use Rattle.records.specs.Constructs.{node_at}
use Rattle.records.specs.Walk.{Found}
use Rattle.records.specs.Says.{Says}
use Rattle.records.proofs.Walks.{walked_says, says_one, says_within}
use Rattle.files.specs.Reading.{ExpressionBody, ExpressionBody.not_earlier, ExpressionBody.same_again, ExpressionBody.new}
use Rattle.files.specs.Reading.{PairBody, PairBody.not_there, PairBody.there, expression_body, pair_body, reading, reading_pairs}
use Rattle.files.specs.Says.{Accepted, TooMany, NoHeader, CutShort, NotListed, WrongLength, Whole, NotEarlier, SameAgain, NotThere}
use Rattle.files.proofs.Bodies.{expression_body_lem, expression_body_one, pair_body_lem, pair_body_one}
use Rattle.files.proofs.Numbers as numbers

-- ---- the expression file

later : {s : List ℕ} {pos : ℕ} {ps : List ℕ} → ExpressionBody s pos ps 5 → Parts (λ p. p < length ps) (node_at s pos) → ⊥
later (not_earlier h) = h

again : {s : List ℕ} (w : Whole s Expressions (ExpressionBody s)) → ExpressionBody s w.at.pos w.at.ps 6 → SameAgain s
again w (same_again parts j h e) = record { whole = w; parts = parts; earlier = j; there = h; same = e }

expression_number : (s : List ℕ) (pos : ℕ) (ps : List ℕ) (n : ℕ) → ExpressionBody s pos ps n → n ≤ 7
expression_number s pos ps n (not_earlier h) = lit≤ tt
expression_number s pos ps n (same_again h j l e) = lit≤ tt
expression_number s pos ps n (new h l) = lit≤ tt

module _ (s : List ℕ) where
  pub reading_says : Says s Expressions (ExpressionBody s) (reading s)
  unfolding reading
  reading_says = walked_says s Expressions (ExpressionBody s) (expression_body s) (expression_body_lem s)

  pub reading_one : (f : Found) → Says s Expressions (ExpressionBody s) f → f ≡ reading s
  reading_one f says =
      says_one s Expressions (ExpressionBody s) (expression_body s) (expression_body_lem s) (λ pos ps n m. expression_body_one s pos ps) says reading_says

  pub reading_within : ((reading s).place ≤ length s) × (length (reading s).places ≤ 1024)
  reading_within = says_within s Expressions (ExpressionBody s) reading_says

  -- there is no other number
  pub reading_number : (reading s).number ≤ 7
  reading_number =
      numbers.says_all s Expressions (ExpressionBody s) (λ n. n ≤ 7) (lit≤ tt) (lit≤ tt) (lit≤ tt) (lit≤ tt) (lit≤ tt) (lit≤ tt)
      (expression_number s) reading_says

  only : numbers.Only s Expressions (ExpressionBody s) (reading s)
  only = record { says = reading_says; one = reading_one }

  pub number_0 : ((reading s).number ≡ 0) ↔ Accepted s Expressions (ExpressionBody s)
  number_0 = numbers.number_0 only

  pub number_1 : ((reading s).number ≡ 1) ↔ (length s ≡ 0)
  number_1 = numbers.number_1 only (λ pos ps h. elim h [ ])

  pub number_2 : ((reading s).number ≡ 2) ↔ (NoHeader s Expressions (ExpressionBody s) ⊎ CutShort s Expressions (ExpressionBody s))
  number_2 = numbers.number_2 only (λ pos ps h. elim h [ ])

  pub number_3 : ((reading s).number ≡ 3) ↔ NotListed s Expressions (ExpressionBody s)
  number_3 = numbers.number_3 only (λ pos ps h. elim h [ ])

  pub number_4 : ((reading s).number ≡ 4) ↔ WrongLength s Expressions (ExpressionBody s)
  number_4 = numbers.number_4 only (λ pos ps h. elim h [ ])

  pub number_5 : ((reading s).number ≡ 5) ↔ NotEarlier s
  number_5 = (
    λ e. let f = (numbers.number_5 only).0 e in record { whole = f.0; later = later f.1 },
    λ h. (numbers.number_5 only).1 (h.whole, not_earlier h.later),
  )

  pub number_6 : ((reading s).number ≡ 6) ↔ SameAgain s
  number_6 = (
    λ e. let f = (numbers.number_6 only).0 e in again f.0 f.1,
    λ h. (numbers.number_6 only).1 (h.whole, same_again h.parts h.earlier h.there h.same),
  )

  pub number_7 : ((reading s).number ≡ 7) ↔ TooMany s Expressions (ExpressionBody s)
  number_7 = numbers.number_7 only (λ pos ps h. elim h [ ])

-- ---- the pair file, over an expression file of n records

missing : {s : List ℕ} {n pos : ℕ} {ps : List ℕ} → PairBody s n pos ps 14 → (word_at s pos 4 < n) × (word_at s pos 6 < n) → ⊥
missing (not_there h) = h

pair_number : (s : List ℕ) (n pos : ℕ) (ps : List ℕ) (k : ℕ) → PairBody s n pos ps k → (k ≤ 4) ⊎ ((k ≡ 7) ⊎ (k ≡ 14))
pair_number s n pos ps k (not_there h) = inr (inr refl)
pair_number s n pos ps k (there h) = inl (lit≤ tt)

module _ (s : List ℕ) (n : ℕ) where
  pub reading_pairs_says : Says s Pairs (PairBody s n) (reading_pairs s n)
  unfolding reading_pairs
  reading_pairs_says = walked_says s Pairs (PairBody s n) (λ pos ps. pair_body s n pos) (pair_body_lem s n)

  pub reading_pairs_one : (f : Found) → Says s Pairs (PairBody s n) f → f ≡ reading_pairs s n
  reading_pairs_one f says =
      says_one s Pairs (PairBody s n) (λ pos ps. pair_body s n pos) (pair_body_lem s n) (λ pos ps k m. pair_body_one s n pos ps) says reading_pairs_says

  pub reading_pairs_within : ((reading_pairs s n).place ≤ length s) × (length (reading_pairs s n).places ≤ 256)
  reading_pairs_within = says_within s Pairs (PairBody s n) reading_pairs_says

  -- there is no other number
  pub reading_pairs_number : ((reading_pairs s n).number ≤ 4) ⊎ (((reading_pairs s n).number ≡ 7) ⊎ ((reading_pairs s n).number ≡ 14))
  reading_pairs_number =
      numbers.says_all s Pairs (PairBody s n) (λ k. (k ≤ 4) ⊎ ((k ≡ 7) ⊎ (k ≡ 14)))
      (inl (lit≤ tt)) (inl (lit≤ tt)) (inl (lit≤ tt)) (inl (lit≤ tt)) (inl (lit≤ tt)) (inr (inl refl))
      (pair_number s n) reading_pairs_says

  only_pairs : numbers.Only s Pairs (PairBody s n) (reading_pairs s n)
  only_pairs = record { says = reading_pairs_says; one = reading_pairs_one }

  pub pairs_number_0 : ((reading_pairs s n).number ≡ 0) ↔ Accepted s Pairs (PairBody s n)
  pairs_number_0 = numbers.number_0 only_pairs

  pub pairs_number_1 : ((reading_pairs s n).number ≡ 1) ↔ (length s ≡ 0)
  pairs_number_1 = numbers.number_1 only_pairs (λ pos ps h. elim h [ ])

  pub pairs_number_2 : ((reading_pairs s n).number ≡ 2) ↔ (NoHeader s Pairs (PairBody s n) ⊎ CutShort s Pairs (PairBody s n))
  pairs_number_2 = numbers.number_2 only_pairs (λ pos ps h. elim h [ ])

  pub pairs_number_3 : ((reading_pairs s n).number ≡ 3) ↔ NotListed s Pairs (PairBody s n)
  pairs_number_3 = numbers.number_3 only_pairs (λ pos ps h. elim h [ ])

  pub pairs_number_4 : ((reading_pairs s n).number ≡ 4) ↔ WrongLength s Pairs (PairBody s n)
  pairs_number_4 = numbers.number_4 only_pairs (λ pos ps h. elim h [ ])

  pub pairs_number_7 : ((reading_pairs s n).number ≡ 7) ↔ TooMany s Pairs (PairBody s n)
  pairs_number_7 = numbers.number_7 only_pairs (λ pos ps h. elim h [ ])

  pub pairs_number_14 : ((reading_pairs s n).number ≡ 14) ↔ NotThere s n
  pairs_number_14 = (
    λ e. let f = (numbers.number_14 only_pairs).0 e in record { whole = f.0; missing = missing f.1 },
    λ h. (numbers.number_14 only_pairs).1 (h.whole, not_there h.missing),
  )
