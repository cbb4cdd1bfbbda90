-- What holds of every event and of every notice set that an expression is written with.
use Rattle.std.specs.Prelude.{ℕ, ◌<◌, ◌^◌, ◌≢◌}
use Rattle.par.specs.Expr.{Expr}
use Rattle.par.specs.Expr.{Expr.silent, Expr.event, Expr.not, Expr.either, Expr.then, Expr.repeat, Expr.notify, Expr.try}

-- P of each event, Q of each notice set
abbrev pub Throughout : (ℕ → Type 0) → (ℕ → Type 0) → Expr → Type 0
Throughout P Q silent = Unit {0}
Throughout P Q (event b) = P b
Throughout P Q (not x) = Throughout P Q x
Throughout P Q (either x y) = Throughout P Q x × Throughout P Q y
Throughout P Q (then x y) = Throughout P Q x × Throughout P Q y
Throughout P Q (repeat x) = Throughout P Q x
Throughout P Q (notify x A) = Throughout P Q x × Q A
Throughout P Q (try x y) = Throughout P Q x × Throughout P Q y

abbrev pub Any : ℕ → Type 0
Any n = Unit {0}

-- the expression does not name the event a
abbrev pub Unnamed : ℕ → Expr → Type 0
Unnamed a = Throughout (λ b. a ≢ b) Any

-- its notice sets have at most k bits
abbrev pub Fits : ℕ → Expr → Type 0
Fits k = Throughout Any (λ A. A < 2 ^ k)

-- its events are bytes and its notice sets have at most k bits: what a file can hold, where k is 16
abbrev pub Writable : ℕ → Expr → Type 0
Writable k = Throughout (λ b. b < 256) (λ A. A < 2 ^ k)
