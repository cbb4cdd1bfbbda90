-- How long numbers and lines are, and a line's parts put together.
use Prim.Native.Nat.{ℕ, ◌+◌, ◌/◌, ◌%◌, ◌≤◌, ◌<◌}
use mathlib.Core.Path.{◌≡◌, refl}
use mathlib.Core.Bool.{Bool, true, false, cond}
use mathlib.Core.List.{List, [], ◌∷◌, ◌++◌}
use native.Mathlib.Omega.{arith}
use lib.ListN.{length, get_or, set}
use lib.Seq.{sets}
use lib.Dec.{ltb}
use Rattle.par.specs.declared.Status.{Status}
use Rattle.par.specs.declared.Status.TheVariants.{Waiting, Success, Failure}
use Rattle.printout.specs.Text.{status_word, hex_digit, decimal_length, decimal, line}

-- ---- how long a number and a line are

by_digits : (b : Bool) (x y z u v : ℕ) → length (cond b (x ∷ y ∷ []) (z ∷ u ∷ v ∷ [])) ≡ cond b 1 2 + 1
by_digits true x y z u v = refl
by_digits false x y z u v = refl

pub decimal_long : (n : ℕ) → length (decimal n) ≡ decimal_length n + 1
decimal_long n = by_digits (ltb n 10) _ _ _ _ _

few_digits : (b : Bool) → cond b 1 2 ≤ 2
few_digits true = omega arith
few_digits false = omega arith

pub decimal_few : (n : ℕ) → decimal_length n ≤ 2
decimal_few n = few_digits (ltb n 10)

pub line_long : (a n : ℕ) (s : Status) → length (line a n s) ≡ 16
line_long a n Waiting = refl
line_long a n Success = refl
line_long a n Failure = refl

-- ---- the end of a line: the word of the status, and a line feed

status_put : (l : List ℕ) (s : Status) → set (sets l 8 (status_word s)) 15 10 ≡ sets l 8 (status_word s ++ (10 ∷ []))
status_put l Waiting = refl
status_put l Success = refl
status_put l Failure = refl

-- the line, of the digits that were written before: those of the notice set are of its high and low byte
pub line_put : (l : List ℕ) (a n : ℕ) (s : Status) {x y p q u v : ℕ} {bytes l₁ l₂ : List ℕ} → n < 65536 → bytes ≡ n % 256 ∷ n / 256 % 256 ∷ []
    → x ≡ hex_digit (a / 16) → y ≡ hex_digit (a % 16)
    → p ≡ hex_digit (get_or bytes 1 0 / 16) → q ≡ hex_digit (get_or bytes 1 0 % 16)
    → u ≡ hex_digit (get_or bytes 0 0 / 16) → v ≡ hex_digit (get_or bytes 0 0 % 16)
    → l₁ ≡ sets l 0 (x ∷ y ∷ 32 ∷ p ∷ q ∷ u ∷ v ∷ 32 ∷ []) → l₂ ≡ sets l₁ 8 (status_word s) → set l₂ 15 10 ≡ sets l 0 (line a n s)
line_put l a n s few are ex ey ep eq eu ev e e' =
    let first : n / 256 % 256 / 16 ≡ n / 4096 = omega arith in
    let second : n / 256 % 256 % 16 ≡ n / 256 % 16 = omega arith in
    let third : n % 256 / 16 ≡ n / 16 % 16 = omega arith in
    let last : n % 256 % 16 ≡ n % 16 = omega arith in
    rw (e', e, ex, ey, ep, eq, eu, ev, are, first, second, third, last) (status_put _ s)
