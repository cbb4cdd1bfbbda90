-- The rule of an accepted file: its nodes are written out and prepared, and stand for the rule.
use Prim.Native.Nat.{ℕ, ◌+◌, ◌-◌, ◌≤◌, ◌<◌}
use mathlib.Core.Path.{◌≡◌, refl, ◌∙◌}
use mathlib.Core.List.{List}
use native.Mathlib.Omega.{arith}
use lib.ListN.{length}
use Rattle.par.specs.Expr.{size}
use Rattle.files.specs.Reading.{reading}
use Rattle.files.specs.Rule.{node_in, expr_of, rule, rule_number}
use Rattle.files.proofs.Accepted.{read_file, accepted_some}
use Rattle.files.proofs.RuleNumbers.{rule_number_0}
use Rattle.play.proofs.Plays.{Stands}
use Rattle.ready.specs.Mirror.WrittenOut.{Room}
use Rattle.ready.specs.Mirror.Ready.{blank, rule_nodes, ready_of}
use Rattle.ready.proofs.Written.{Out, size_some, room_out, written_out_long}
use Rattle.ready.proofs.Prepared.{gain_long}
use Rattle.ready.proofs.Afresh.{starts}

module _ (s : List ℕ) where
  -- there is room for a rule that runs
  pub rule_room : rule_number s ≡ 0
      → Room (node_in s (reading s).places) (length (reading s).places) (length (reading s).places - 1) blank
  unfolding rule expr_of
  rule_room e =
      let runs = (rule_number_0 s).0 e in
      let some = accepted_some s runs.0 in
      let small = runs.1 in
      record { within = omega arith; earlier = (read_file s).earlier; room = omega arith; nodes_long = refl; sets_long = refl }

  rule_out : rule_number s ≡ 0 → Out (rule s) blank (rule_nodes s)
  unfolding rule expr_of rule_nodes
  rule_out e = let room = rule_room e in let l = room.within in room_out room (length (reading s).places) (omega arith)

  -- at least one node, and at most 64
  pub rule_count : rule_number s ≡ 0 → (1 ≤ (rule_nodes s).count) × ((rule_nodes s).count ≤ 64)
  rule_count e =
      let is = (rule_out e).count in
      let few = ((rule_number_0 s).0 e).1 in
      let some = size_some (rule s) in
      (omega arith, omega arith)

  pub rule_long : (length (rule_nodes s).nodes ≡ 64) × (length (rule_nodes s).sets ≡ 64)
  unfolding rule_nodes
  rule_long = written_out_long _ (length (reading s).places) _ blank

  -- ---- what is promised

  pub ready_stands : rule_number s ≡ 0
      → let r = ready_of s in Stands r.nodes r.gain r.leaves r.repeats r.root r.fresh 0 (rule s)
  unfolding ready_of
  ready_stands e =
      let c = rule_count e in starts (rule_nodes s).nodes (rule_nodes s).sets rule_long.1 (omega arith) (rule_out e).lays

  pub root_few : rule_number s ≡ 0 → (ready_of s).root < 64
  unfolding ready_of
  root_few e = let c = rule_count e in omega arith

  pub root_size : rule_number s ≡ 0 → (ready_of s).root + 1 ≡ size (rule s)
  unfolding ready_of
  root_size e = let is = (rule_out e).count in omega (arith, size_some (rule s))

  pub ready_long : (length (ready_of s).nodes ≡ 64) × (length (ready_of s).gain ≡ 64)
  unfolding ready_of
  ready_long = let l = rule_long in (l.0, gain_long _ _ _ ∙ l.1)
