-- Mirror. One event on a whole rule.
use Rattle.std.specs.Prelude.{ℕ, zero, suc, Bool, cond, ◌&&◌, List, eqb}
use Rattle.std.specs.Int.Count.{ones}
use Rattle.par.specs.declared.Status.TheVariants.{Waiting}
use Rattle.play.specs.declared.Moved.{Moved}
use Rattle.play.specs.Mirror.Masks.{bit, one, with, both}
use Rattle.play.specs.Mirror.Nodes.{first_at}
use Rattle.play.specs.Mirror.Down.{words, Made, down}

-- the events in play that have come: L are the events of the rule
abbrev pub met_at : List ℕ → ℕ → ℕ → ℕ → ℕ → Bool
met_at F L a A q = bit L q && (eqb (first_at F q) a && bit A q)

-- those below b
module _ (F : List ℕ) (L a A : ℕ) where
  unfoldable pub comes : ℕ → ℕ
  comes zero = 0
  comes (suc q) = cond (met_at F L a A q) (with (comes q) (one q)) (comes q)

-- no event in play came
abbrev pub rested : ℕ → ℕ → Moved
rested R A = record { status = Waiting; notices = 0; lines = cond (eqb A 0) 1 (ones A); active = A; going = both A R }

abbrev pub moved : Made → Moved
moved m =
    record {
      status = m.status;
      notices = m.after.notices;
      lines = ones m.after.counted;
      active = m.after.active;
      going = both m.after.going m.after.active;
    }

unfoldable pub moved_by : List ℕ → List ℕ → ℕ → ℕ → ℕ → ℕ → Moved
moved_by F G R root T A = moved (down F G T (suc root) 0 root (words A (both A R) A 0))

unfoldable pub stepped_by : List ℕ → List ℕ → ℕ → ℕ → ℕ → ℕ → Moved
stepped_by F G R root T A = cond (eqb T 0) (rested R A) (moved_by F G R root T A)

unfoldable pub stepped : List ℕ → List ℕ → ℕ → ℕ → ℕ → ℕ → ℕ → Moved
stepped F G L R root a A = stepped_by F G R root (comes F L a A 64) A
