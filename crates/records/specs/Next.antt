-- What stands at a place of a file: the tests in document 01's order, 7, 2 (header), 3, 4, 2 (whole).
use Rattle.std.specs.Prelude.{ℕ, ◌+◌, ◌-◌, List, Bool, Result, Ok, Err, cond, not, length, leb, ltb, eqb}
use Rattle.std.specs.Option.{unwrap_or}
use Rattle.records.specs.declared.Contents.{Contents}
use Rattle.records.specs.declared.Next.{Next}
use Rattle.records.specs.declared.Next.TheVariants.{End, Record}
use Rattle.records.specs.declared.refusal.Refusal.{Refusal}
use Rattle.records.specs.declared.refusal.Refusal.TheVariants.{TooManyRecords, CutShort, UnknownKind, WrongLength}
use Rattle.records.specs.Fields.{word_at}
use Rattle.records.specs.Kinds.{kind_of, length_in, most_of}

-- refused so if the test holds, else what comes after it
abbrev pub refused_if : Refusal → Bool → Result Next Refusal → Result Next Refusal
refused_if r test rest = cond test (Err r) rest

-- the length of the record at pos by its kind; 0 where the kind is not in the file's list
abbrev pub wanted : List ℕ → Contents → ℕ → ℕ
wanted s contents pos = unwrap_or (length_in contents (kind_of (word_at s pos 2))) 0

-- at pos, where count records stand before it
unfoldable pub next_at : List ℕ → Contents → ℕ → ℕ → Result Next Refusal
next_at s contents pos count =
    let left = length s - pos in
    let size = word_at s pos 0 in
    let want = wanted s contents pos in
    cond (leb (length s) pos) (Ok End)
    (refused_if TooManyRecords (leb (most_of contents) count)
    (refused_if CutShort (ltb left 4)
    (refused_if UnknownKind (eqb want 0)
    (refused_if WrongLength (not (eqb size want))
    (refused_if CutShort (ltb left size)
    (Ok (Record (pos + size))))))))
