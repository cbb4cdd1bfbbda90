-- Adequacy (the paper's theorem 5): what has completed is silent, and silent answers "none, waiting" for ever.
use Prim.Native.Nat.{ℕ}
use mathlib.Core.Path.{◌≡◌, refl, ap, ◌∙◌}
use mathlib.Core.List.{List, [], ◌∷◌, map}
use mathlib.Core.Logic.{◌≢◌}
use Rattle.par.specs.declared.Status.TheVariants.{Waiting}
use Rattle.par.specs.declared.Answer.{Answer}
use Rattle.par.specs.Expr.{Expr}
use Rattle.par.specs.Expr.{Expr.silent}
use Rattle.par.specs.Step.{status, notices, remainder, lines}
use Rattle.par.specs.Feed.{answers}
use Rattle.par.proofs.Figure4.{finished}

-- none, waiting, in one line
abbrev pub nothing : Answer
nothing = record { notices = 0; lines = 1; status = Waiting }

pub silent_answers : (feed : List ℕ) → answers silent feed ≡ map (λ a. nothing) feed
unfolding answers status notices remainder lines
silent_answers [] = refl
silent_answers (a ∷ feed) = ap (λ (l : List Answer). nothing ∷ l) (silent_answers feed)

pub completed : (x : Expr) (a : ℕ) → status x a ≢ Waiting → (feed : List ℕ) → answers (remainder x a) feed ≡ map (λ a. nothing) feed
completed x a n feed = ap (λ e. answers e feed) (finished x a n) ∙ silent_answers feed
