-- Mirror. The answers to a whole feed, as the code writes them: F are the nodes, G what they gain, L the event nodes, R the repeats.
use Rattle.std.specs.Prelude.{ℕ, ◌/◌, ◌<◌, ◌≡◌, cond, List, [], ◌∷◌, ◌++◌, length, get_or, set}
use Rattle.par.specs.Status.{status_byte}
use Rattle.play.specs.declared.Moved.{Moved as Played}
use Rattle.play.specs.Mirror.Masks.{bit, one, with}
use Rattle.play.specs.Mirror.Step.{comes, stepped}
use Rattle.ready.specs.Mirror.Ready.{ready_of}
use Rattle.engine.specs.Feed.{answer_record}
use Rattle.engine.specs.Mirror.Desk.{narrowed}

-- ---- the table: for each byte, the event nodes that have it

-- node r, which is the number n, entered at its event if it is an event node
unfoldable pub entered : ℕ → ℕ → ℕ → List ℕ → List ℕ
entered L n r l = cond (bit L r) (set l (n / 256) (with (get_or l (n / 256) 0) (one r))) l

pub record Table (F : List ℕ) (L : ℕ) (l : List ℕ) : Type 0 where
  pub long : length l ≡ 256
  pub at : (a : ℕ) → a < 256 → get_or l a 0 ≡ comes F L a L 64

-- ---- the answers

abbrev pub record_of : Played → List ℕ
record_of m = answer_record (narrowed m.notices) (status_byte m.status)

module _ (F G : List ℕ) (L R root : ℕ) where
  -- from the nodes A in play on
  unfoldable pub fed_from : ℕ → List ℕ → List ℕ
  fed_from A [] = []
  fed_from A (a ∷ events) = let m = stepped F G L R root a A in record_of m ++ fed_from m.active events

  -- the nodes in play afterwards
  unfoldable pub plays_on : ℕ → List ℕ → ℕ
  plays_on A [] = A
  plays_on A (a ∷ events) = plays_on (stepped F G L R root a A).active events

-- of a rule file
unfoldable pub fed_bytes : List ℕ → List ℕ → List ℕ
fed_bytes s events = let r = ready_of s in fed_from r.nodes r.gain r.leaves r.repeats r.root r.fresh events
