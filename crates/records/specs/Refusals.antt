-- Document 01's table of refusal numbers: the number of each refusal, and of what a call comes to, where 0 stands for accepted.
use Rattle.std.specs.Prelude.{ℕ, Result}
use Rattle.std.specs.Prelude.{Ok, Err}
use Rattle.records.specs.declared.refusal.Refusal.{Refusal}
use Rattle.records.specs.declared.refusal.Refusal.TheVariants.{EmptyFile, CutShort, UnknownKind, WrongLength, NotAnEarlierRecord, SameAsEarlierRecord}
use Rattle.records.specs.declared.refusal.Refusal.TheVariants.{TooManyRecords, RuleTooLarge, NoRoom, NoticesDiffer, StatusesDiffer, RemainderNotInFile}
use Rattle.records.specs.declared.refusal.Refusal.TheVariants.{RemaindersNotListed, PairNamesNoRecord, NoRuleOpen, InputTooLong}

abbrev pub number_of : Refusal → ℕ
number_of EmptyFile = 1
number_of CutShort = 2
number_of UnknownKind = 3
number_of WrongLength = 4
number_of NotAnEarlierRecord = 5
number_of SameAsEarlierRecord = 6
number_of TooManyRecords = 7
number_of RuleTooLarge = 8
number_of NoRoom = 9
number_of NoticesDiffer = 10
number_of StatusesDiffer = 11
number_of RemainderNotInFile = 12
number_of RemaindersNotListed = 13
number_of PairNamesNoRecord = 14
number_of NoRuleOpen = 15
number_of InputTooLong = 17

abbrev pub number : {A : Type 0} → Result A Refusal → ℕ
number (Ok a) = 0
number (Err r) = number_of r
