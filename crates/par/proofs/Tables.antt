-- The two tables of the code hold, at each of the nine places, what the figure's rule gives; and a status is told by its byte.
use Prim.Native.Nat.{ℕ}
use mathlib.Core.Path.{◌≡◌, refl, ap₂, ◌∙◌}
use mathlib.Core.List.{List, [], ◌∷◌}
use lib.ListN.{get_or}
use Rattle.par.specs.declared.Status.{Status}
use Rattle.par.specs.declared.Status.TheVariants.{Waiting, Success, Failure}
use Rattle.par.specs.Status.{higher, tried, status_byte, status_of}

-- row i, column j
abbrev pub entry : List (List Status) → ℕ → ℕ → Status
entry table i j = get_or (get_or table i []) j Waiting

-- a table that has the rule's value at each place is the rule
pub entry_is : (table : List (List Status)) (rule : Status → Status → Status)
    → ((c d : Status) → entry table (status_byte c) (status_byte d) ≡ rule c d)
    → {i j : ℕ} (c d : Status) → i ≡ status_byte c → j ≡ status_byte d → entry table i j ≡ rule c d
entry_is table rule right c d p q = ap₂ (entry table) p q ∙ right c d

abbrev pub either_table : List (List Status)
either_table = (Waiting ∷ Success ∷ Waiting ∷ []) ∷ (Success ∷ Success ∷ Success ∷ []) ∷ (Waiting ∷ Success ∷ Failure ∷ []) ∷ []

pub either_right : (c d : Status) → entry either_table (status_byte c) (status_byte d) ≡ higher c d
either_right Waiting Waiting = refl
either_right Waiting Success = refl
either_right Waiting Failure = refl
either_right Success Waiting = refl
either_right Success Success = refl
either_right Success Failure = refl
either_right Failure Waiting = refl
either_right Failure Success = refl
either_right Failure Failure = refl

abbrev pub try_table : List (List Status)
try_table = (Waiting ∷ Failure ∷ Waiting ∷ []) ∷ (Success ∷ Success ∷ Success ∷ []) ∷ (Failure ∷ Failure ∷ Failure ∷ []) ∷ []

pub try_right : (c d : Status) → entry try_table (status_byte c) (status_byte d) ≡ tried c d
try_right Waiting Waiting = refl
try_right Waiting Success = refl
try_right Waiting Failure = refl
try_right Success Waiting = refl
try_right Success Success = refl
try_right Success Failure = refl
try_right Failure Waiting = refl
try_right Failure Success = refl
try_right Failure Failure = refl

-- ---- the byte of a status stands for it

pub status_of_byte : (s : Status) → status_of (status_byte s) ≡ s
unfolding status_of
status_of_byte Waiting = refl
status_of_byte Success = refl
status_of_byte Failure = refl
