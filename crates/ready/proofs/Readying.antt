-- What making a file ready asks of its calls, and that what they give is the rule of the file. The file is read into the table `is`.
use Prim.Native.Nat.{ℕ, ◌-◌, ◌≤◌, ◌<◌, min}
use mathlib.Core.Path.{◌≡◌, refl, sym, ◌∙◌}
use mathlib.Core.Logic.{◌≢◌}
use mathlib.Core.List.{List}
use native.Mathlib.Omega.{arith}
use lib.ListN.{length, take}
use Rattle.par.specs.Expr.{size}
use Rattle.records.specs.Walk.{ReadTo}
use Rattle.files.specs.Reading.{reading}
use Rattle.files.specs.Rule.{node_in, expr_of, rule, capped_size, rule_number}
use Rattle.files.proofs.Accepted.{accepted_some}
use Rattle.files.proofs.Places.{places_read}
use Rattle.files.proofs.RuleNumbers.{rule_number_0, rule_number_8, rule_number_refused}
use Rattle.ready.specs.declared.Ready.{Ready}
use Rattle.ready.specs.declared.fresh.Start.{Start}
use Rattle.ready.specs.declared.writing.Written.{Written}
use Rattle.ready.specs.Mirror.WrittenOut.{last, Writes, Room}
use Rattle.ready.specs.Mirror.Fresh.{Prepares}
use Rattle.ready.specs.Mirror.Ready.{blank, rule_nodes, ready_of}
use Rattle.ready.proofs.RuleNodes.{rule_room, rule_count}

module _ (s : List ℕ) {number count place : ℕ} {was is : List ℕ} (r : ReadTo (reading s) number count place was is) where
  pub refused_read : number ≢ 0 → number ≡ rule_number s
  refused_read h = r.number_is ∙ sym (rule_number_refused s (λ e. h (r.number_is ∙ e)))

  module _ (reads : number ≡ 0) {z : ℕ} (sized : z ≡ capped_size (node_in s (take count is)) (length (take count is) - 1)) where
    size_told : z ≡ min 65 (size (rule s))
    unfolding capped_size rule expr_of
    size_told = sized ∙ rw (places_read r)

    pub refused_large : 64 < z → 8 ≡ rule_number s
    refused_large h = sym ((rule_number_8 s).1 (sym r.number_is ∙ reads, (let q = size_told in omega arith)))

    module _ (small : z ≤ 64) where
      pub accepted : rule_number s ≡ 0
      accepted = (rule_number_0 s).1 (sym r.number_is ∙ reads, (let q = size_told in omega arith))

      pub write_room : Room (node_in s (take count is)) (length (take count is)) (length (take count is) - 1) blank
      write_room = rw (places_read r) (rule_room s accepted)

      module _ {v : Written} (writes : Writes (node_in s (take count is)) (length (take count is) - 1) blank v) where
        nodes_are : v ≡ rule_nodes s
        unfolding rule_nodes
        nodes_are =
            let some = accepted_some s (sym r.number_is ∙ reads) in
            writes (length (reading s).places) (rw (places_read r) (omega arith)) ∙ rw (places_read r)

        -- at least one node, and at most 64
        pub nodes_some : (1 ≤ v.count) × (v.count ≤ 64)
        nodes_some = rw nodes_are (rule_count s accepted)

        pub rule_ready : {p : Start} {G : List ℕ} → Prepares v.nodes v.sets (last v) p G
            → ◌≡◌ {A = Ready} (record { root = last v; leaves = p.leaves; repeats = p.repeats; fresh = p.fresh; nodes = v.nodes; gain = G })
            (ready_of s)
        unfolding ready_of
        rule_ready p = rw (p.0, p.1, nodes_are) refl
