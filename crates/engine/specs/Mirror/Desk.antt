-- Mirror. The desk, as the code moves it: on any bytes whatever.
use Rattle.std.specs.Prelude.{ℕ, ◌%◌, Result, Ok, Err, Bool, not, cond, eqb}
use mathlib.Core.List.{List, replicate}
use Rattle.par.specs.declared.Answer.{Answer}
use Rattle.records.specs.declared.refusal.Refusal.{Refusal}
use Rattle.records.specs.declared.refusal.Refusal.TheVariants.{NoRuleOpen}
use Rattle.files.specs.Rule.{rule_number}
use Rattle.play.specs.declared.Moved.{Moved as Played}
use Rattle.play.specs.Mirror.Step.{stepped}
use Rattle.ready.specs.Mirror.Ready.{ready_of}
use Rattle.engine.specs.declared.Desk.{Desk}
use Rattle.engine.specs.declared.Moved.{Moved}

unfoldable pub empty_desk : Desk
empty_desk = record {
  is_open = 0;
  root = 0;
  leaves = 0;
  repeats = 0;
  active = 0;
  going = 0;
  nodes = replicate 64 0;
  gain = replicate 64 0;
}

-- ---- opening

-- the rule of a file before its first event
unfoldable pub fresh_desk : List ℕ → Desk
fresh_desk s =
    let r = ready_of s in
    record {
      is_open = 1;
      root = r.root;
      leaves = r.leaves;
      repeats = r.repeats;
      active = r.fresh;
      going = 0;
      nodes = r.nodes;
      gain = r.gain;
    }

-- what an opening leaves on a desk, and its number
pub record Opened : Type 0 where
  pub desk : Desk
  pub number : ℕ

unfoldable pub opened_of : Desk → List ℕ → Opened
opened_of d s = record { desk = cond (eqb (rule_number s) 0) (fresh_desk s) d; number = rule_number s }

-- ---- a step

-- a mark says no at 0, and yes at any other byte
abbrev pub marked : ℕ → Bool
marked n = not (eqb n 0)

-- a notice set as wide as a record holds it
abbrev pub narrowed : ℕ → ℕ
narrowed n = n % 65536

abbrev pub answer_of : Played → Answer
answer_of m = record { notices = narrowed m.notices; lines = m.lines; status = m.status }

-- the two words after a step, and the reply
pub record Onward : Type 0 where
  pub active : ℕ
  pub going : ℕ
  pub reply : Result Answer Refusal

abbrev pub played_on : Played → Onward
played_on m = record { active = m.active; going = m.going; reply = Ok (answer_of m) }

unfoldable pub onward : Desk → ℕ → Onward
onward d a =
    cond (marked d.is_open) (played_on (stepped d.nodes d.gain d.leaves d.repeats (d.root % 64) a d.active))
    (record { active = d.active; going = d.going; reply = Err NoRuleOpen })

-- nothing else of the desk changes
abbrev pub put : Desk → ℕ → ℕ → Desk
put d active going = record {
  is_open = d.is_open;
  root = d.root;
  leaves = d.leaves;
  repeats = d.repeats;
  active = active;
  going = going;
  nodes = d.nodes;
  gain = d.gain;
}

-- what a step leaves on a desk, and its reply
unfoldable pub stepped_of : Desk → ℕ → Moved
stepped_of d a = let o = onward d a in record { desk = put d o.active o.going; reply = o.reply }
