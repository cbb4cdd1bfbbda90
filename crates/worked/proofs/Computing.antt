-- P1 to P10 by computation from the bytes of their files. A proposal's row is computed whole. A rule's is computed by the figures, and `engine`'s
-- theorems say that a run writes this and a desk replies it.
use Prim.Native.Nat.{ℕ}
use mathlib.Core.Path.{◌≡◌, refl, ap₂, ◌∙◌}
use mathlib.Core.Bool.{Bool, true, ◌&&◌, and-eq-true_iff}
use mathlib.Core.List.{List, [], ◌∷◌, map}
use native.Mathlib.Decide.{ℕ_discrete}
use lib.Dec.{ltb}
use borrow.Author.Tests.{ltb-true, le-leb}
use Rattle.par.specs.Expr.{join, size}
use Rattle.par.specs.Step.{status, notices, remainder, lines}
use Rattle.par.specs.Feed.{answers, Bytes}
use Rattle.par.specs.Records.{expr_within, expr}
use Rattle.records.specs.Fields.{word_at}
use Rattle.records.specs.Kinds.{kind_of}
use Rattle.records.specs.Constructs.{node_of, node_at}
use Rattle.records.specs.Next.{next_at}
use Rattle.records.specs.Walk.{turn, follow, walk, walked}
use Rattle.files.specs.Reading.{seen_in, expression_body, reading, pair_body, reading_pairs}
use Rattle.files.specs.Rule.{node_in, expr_of, rule, rule_number}
use Rattle.files.specs.Swap.{swap_bytes}
use Rattle.engine.specs.declared.Desk.{Desk}
use Rattle.engine.specs.Feed.{answer_bytes, ran_number}
use Rattle.engine.specs.Mirror.Desk.{opened_of}
use Rattle.engine.specs.History.{Call.opening, Call.stepping, Back, Back.numbered, desks_back}
use Rattle.engine.proofs.DeskRuns.{replies}
use Rattle.engine.proofs.Promises.{run_writes, desk_is_run}
use Rattle.alike.specs.Proposal.{listing, left_of, right_of}
use Rattle.alike.specs.Verdict.{stand_at, listed, fault_of, first, first_pair, first_fault, closing, judged, shown_of}
use Rattle.worked.specs.Examples.{a, c, o, supplier_bytes, try_bytes, table}
use Rattle.worked.specs.Holds.{Every, Every.none, Every.◌&◌, Writes, Holds}

-- ---- what the figures answer comes back of a rule that is opened

module _ (s feed : List ℕ) (opens : rule_number s ≡ 0) where
  writes : (bytes : List ℕ) → answer_bytes (answers (rule s) feed) ≡ bytes → Writes s feed bytes
  unfolding ran_number
  writes bytes right place buffer room number written buffer' fed =
      let runs : number ≡ 0 = fed.number_is ∙ rw (opens, le-leb _ _ room) in
      let ran = run_writes s feed place buffer fed runs in
      (runs, ran.0, ran.1 ∙ rw right)

  steps_through : Bytes s → (back : List Back) → replies (answers (rule s) feed) ≡ back
      → (d : Desk) → desks_back d (opening s ∷ map stepping feed) ≡ numbered 0 ∷ back
  unfolding opened_of desks_back
  steps_through bytes back right d = ap₂ (λ n bs. numbered n ∷ bs) opens (desk_is_run s feed bytes d opens ∙ right)

-- that a file is bytes, by a test that computes
are_bytes : List ℕ → Bool
are_bytes [] = true
are_bytes (v ∷ s) = ltb v 256 && are_bytes s

are_bytes_lem : (s : List ℕ) → are_bytes s ≡ true → Bytes s
unfolding are_bytes
are_bytes_lem [] e = tt
are_bytes_lem (v ∷ s) e =
    let both = (and-eq-true_iff (ltb v 256) (are_bytes s)).0 e in
    (ltb-true v 256 both.0, are_bytes_lem s both.1)

-- ---- the table

pub table_holds : Every Holds table
unfolding join size status notices remainder lines answers expr_within expr word_at kind_of node_of node_at next_at turn follow walk walked
    seen_in expression_body reading pair_body reading_pairs node_in expr_of rule rule_number answer_bytes are_bytes
    listing left_of right_of stand_at listed fault_of first first_pair first_fault closing judged shown_of ℕ_discrete
table_holds =
    writes swap_bytes _ refl _ refl
    & steps_through swap_bytes (o ∷ a ∷ c ∷ []) refl (are_bytes_lem swap_bytes refl) _ refl
    & writes supplier_bytes _ refl _ refl
    & writes try_bytes _ refl _ refl
    & refl
    & refl
    & refl
    & refl
    & refl
    & refl
    & none
