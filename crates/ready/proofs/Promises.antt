-- What this crate promises beside its contracts, each theorem whole, with the file that proves it cited. Assumes nothing: there is no axiom in the crate.
-- An event may be any number: a node holds it whole.
use Prim.Native.Nat.{ℕ, ◌+◌, ◌<◌}
use mathlib.Core.Path.{◌≡◌}
use mathlib.Core.List.{List}
use lib.ListN.{length}
use Rattle.par.specs.Expr.{size}
use Rattle.files.specs.Rule.{rule, rule_number}
use Rattle.play.proofs.Plays.{Stands}
use Rattle.ready.specs.Mirror.Ready.{ready_of}
use Rattle.ready.proofs.RuleNodes

-- ---- What a rule file is made ready to, before the first event, stands for its rule

pub ready_stands : (s : List ℕ) → rule_number s ≡ 0
    → let r = ready_of s in Stands r.nodes r.gain r.leaves r.repeats r.root r.fresh 0 (rule s)
ready_stands = RuleNodes.ready_stands

-- ---- Its nodes are as many as the rule's size, at most 64

pub root_few : (s : List ℕ) → rule_number s ≡ 0 → (ready_of s).root < 64
root_few = RuleNodes.root_few

pub root_size : (s : List ℕ) → rule_number s ≡ 0 → (ready_of s).root + 1 ≡ size (rule s)
root_size = RuleNodes.root_size

pub ready_long : (s : List ℕ) → (length (ready_of s).nodes ≡ 64) × (length (ready_of s).gain ≡ 64)
ready_long = RuleNodes.ready_long
