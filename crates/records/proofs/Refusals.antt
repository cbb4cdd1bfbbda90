-- A refusal is known by its number (`refusal_one`), which is 1 to 17 (`refusal_some`, `refusal_most`), and so is what a call comes to that gives nothing else (`outcome_one`).
use Prim.Native.Nat.{◌≤◌}
use lib.Dec.{lit≤}
use mathlib.Core.Path.{◌≡◌, refl, sym, ◌∙◌, ap}
use mathlib.Core.Logic.{◌≢◌}
use Rattle.std.specs.Prelude.{Result, Ok, Err, IfOk}
use Rattle.records.specs.declared.refusal.Refusal.{Refusal}
use Rattle.records.specs.declared.refusal.Refusal.TheVariants.{EmptyFile, CutShort, UnknownKind, WrongLength, NotAnEarlierRecord, SameAsEarlierRecord}
use Rattle.records.specs.declared.refusal.Refusal.TheVariants.{TooManyRecords, RuleTooLarge, NoRoom, NoticesDiffer, StatusesDiffer, RemainderNotInFile}
use Rattle.records.specs.declared.refusal.Refusal.TheVariants.{RemaindersNotListed, PairNamesNoRecord, NoRuleOpen, InputTooLong}
use Rattle.records.specs.Refusals.{number_of, number}
use lib.ListN.{get_or}
use mathlib.Core.List.{List, [], ◌∷◌}

-- the refusal of a number
abbrev refusals : List Refusal
refusals =
    EmptyFile ∷ EmptyFile ∷ CutShort ∷ UnknownKind ∷ WrongLength ∷ NotAnEarlierRecord ∷ SameAsEarlierRecord ∷ TooManyRecords ∷ RuleTooLarge
    ∷ NoRoom ∷ NoticesDiffer ∷ StatusesDiffer ∷ RemainderNotInFile ∷ RemaindersNotListed ∷ PairNamesNoRecord ∷ NoRuleOpen ∷ EmptyFile
    ∷ InputTooLong ∷ []

listed : (r : Refusal) → get_or refusals (number_of r) EmptyFile ≡ r
listed EmptyFile = refl
listed CutShort = refl
listed UnknownKind = refl
listed WrongLength = refl
listed NotAnEarlierRecord = refl
listed SameAsEarlierRecord = refl
listed TooManyRecords = refl
listed RuleTooLarge = refl
listed NoRoom = refl
listed NoticesDiffer = refl
listed StatusesDiffer = refl
listed RemainderNotInFile = refl
listed RemaindersNotListed = refl
listed PairNamesNoRecord = refl
listed NoRuleOpen = refl
listed InputTooLong = refl

pub refusal_one : {r r' : Refusal} → number_of r ≡ number_of r' → r ≡ r'
refusal_one {r} {r'} e = sym (listed r) ∙ ap (λ n. get_or refusals n EmptyFile) e ∙ listed r'

pub refusal_some : (r : Refusal) → number_of r ≢ 0
refusal_some EmptyFile e = cc
refusal_some CutShort e = cc
refusal_some UnknownKind e = cc
refusal_some WrongLength e = cc
refusal_some NotAnEarlierRecord e = cc
refusal_some SameAsEarlierRecord e = cc
refusal_some TooManyRecords e = cc
refusal_some RuleTooLarge e = cc
refusal_some NoRoom e = cc
refusal_some NoticesDiffer e = cc
refusal_some StatusesDiffer e = cc
refusal_some RemainderNotInFile e = cc
refusal_some RemaindersNotListed e = cc
refusal_some PairNamesNoRecord e = cc
refusal_some NoRuleOpen e = cc
refusal_some InputTooLong e = cc

pub outcome_one : (o o' : Result (Unit {0}) Refusal) → number o ≡ number o' → o ≡ o'
outcome_one (Ok a) (Ok b) e = refl
outcome_one (Ok a) (Err r) e = absurd (refusal_some r (sym e))
outcome_one (Err r) (Ok a) e = absurd (refusal_some r e)
outcome_one (Err r) (Err r') e = ap Err (refusal_one e)

pub refusal_most : (r : Refusal) → number_of r ≤ 17
refusal_most EmptyFile = lit≤ tt
refusal_most CutShort = lit≤ tt
refusal_most UnknownKind = lit≤ tt
refusal_most WrongLength = lit≤ tt
refusal_most NotAnEarlierRecord = lit≤ tt
refusal_most SameAsEarlierRecord = lit≤ tt
refusal_most TooManyRecords = lit≤ tt
refusal_most RuleTooLarge = lit≤ tt
refusal_most NoRoom = lit≤ tt
refusal_most NoticesDiffer = lit≤ tt
refusal_most StatusesDiffer = lit≤ tt
refusal_most RemainderNotInFile = lit≤ tt
refusal_most RemaindersNotListed = lit≤ tt
refusal_most PairNamesNoRecord = lit≤ tt
refusal_most NoRuleOpen = lit≤ tt
refusal_most InputTooLong = lit≤ tt

-- what has a value if it is accepted, and its number
pub result_one : {A : Type 0} (o o' : Result A Refusal) (x : A) → number o ≡ number o' → IfOk o (λ a. a ≡ x) → IfOk o' (λ a. a ≡ x) → o ≡ o'
result_one (Ok a) (Ok b) x e p q = ap Ok (p ∙ sym q)
result_one (Ok a) (Err r) x e p q = absurd (refusal_some r (sym e))
result_one (Err r) (Ok b) x e p q = absurd (refusal_some r e)
result_one (Err r) (Err r') x e p q = ap Err (refusal_one e)
