-- P1 to P4 of document 01, by computation. The lines of P2 are as T-06 of document 02 counts them.
use Prim.Native.Nat.{ℕ}
use mathlib.Core.Path.{◌≡◌, refl}
use mathlib.Core.List.{List, [], ◌∷◌}
use Rattle.par.specs.declared.Status.TheVariants.{Waiting, Success, Failure}
use Rattle.par.specs.Expr.{Expr, join, size}
use Rattle.par.specs.Expr.{Expr.event, Expr.then, Expr.repeat, Expr.notify, Expr.try}
use Rattle.par.specs.Step.{status, notices, remainder, lines}
use Rattle.par.specs.Feed.{answers, notices_on, statuses_on, lines_on}

-- the letters of the examples
abbrev o : ℕ
o = 0x6f

abbrev a : ℕ
a = 0x61

abbrev c : ℕ
c = 0x63

abbrev w : ℕ
w = 0x77

abbrev swap : Expr
swap = repeat (then (event o) (try (notify (then (event a) (event c)) 3) (event w)))

abbrev supplier : Expr
supplier = repeat (then (event o) (try (notify (then (notify (event a) 1) (event c)) 2) (event w)))

abbrev oacoawc : List ℕ
oacoawc = o ∷ a ∷ c ∷ o ∷ a ∷ w ∷ c ∷ []

pub record Worked : Type 0 where
  pub swap_size : size swap ≡ 9
  pub P1-notices : notices_on swap oacoawc ≡ 0 ∷ 0 ∷ 3 ∷ 0 ∷ 0 ∷ 0 ∷ 0 ∷ []
  pub P1-statuses : statuses_on swap oacoawc ≡ Waiting ∷ Waiting ∷ Waiting ∷ Waiting ∷ Waiting ∷ Failure ∷ Waiting ∷ []
  pub P2 : lines_on swap (o ∷ a ∷ c ∷ []) ≡ 3 ∷ 6 ∷ 4 ∷ []
  pub P3-notices : notices_on supplier (o ∷ a ∷ w ∷ []) ≡ 0 ∷ 1 ∷ 0 ∷ []
  pub P3-statuses : statuses_on supplier (o ∷ a ∷ w ∷ []) ≡ Waiting ∷ Waiting ∷ Failure ∷ []
  pub P4 : statuses_on (try (event a) (event a)) (a ∷ []) ≡ Success ∷ []

pub worked : Worked
unfolding answers status notices remainder lines join size
worked = record {
  swap_size = refl;
  P1-notices = refl;
  P1-statuses = refl;
  P2 = refl;
  P3-notices = refl;
  P3-statuses = refl;
  P4 = refl;
}
