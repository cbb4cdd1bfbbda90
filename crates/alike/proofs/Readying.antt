-- Two files that are read without fault: `ready`, what reading leaves in the tables; `held_ready`, `indexed_ready`, `pairs_ready` and `within_ready`,
-- what the judge asks of the records and the pairs; `closing_ready`, that its first fault is that of the files; and the verdict from it, outcome by
-- outcome.
use Prim.Native.Nat.{ℕ, ◌<◌, ◌≤◌}
use mathlib.Core.Path.{◌≡◌, refl, sym, ◌∙◌, ap, ap₂}
use mathlib.Core.Logic.{◌≢◌, ⊎_elim}
use mathlib.Core.List.{List}
use mathlib.Core.Bool.{true, false}
use native.Mathlib.Omega.{arith}
use lib.ListN.{length, get_or, take, get_or-eq_default}
use lib.Seq.{get_or-take, length-take-le}
use Rattle.par.specs.declared.Node.{Node}
use Rattle.par.specs.declared.Node.TheVariants.{Silent}
use Rattle.par.specs.Expr.{Expr}
use Rattle.par.specs.Nodes.{node_cmp}
use Rattle.par.specs.Records.{File}
use Rattle.records.specs.Fields.{word_at}
use Rattle.records.specs.Constructs.{node_at}
use Rattle.records.specs.Refusals.{number}
use Rattle.records.specs.Walk.{Found, ReadTo}
use Rattle.files.specs.declared.Reading.{Reading}
use Rattle.files.specs.Reading.{reading, reading_pairs}
use Rattle.files.specs.Rule.{node_in, expr_of}
use Rattle.files.specs.Index.{Sorted}
use Rattle.files.proofs.Accepted.{read_file, few, accepted_pairs}
use Rattle.files.proofs.Inserting.{sorted_same, sorted_taken}
use Rattle.files.proofs.Places.{places_read, places_fit}
use Rattle.alike.specs.declared.pair.Pair.{Pair}
use Rattle.alike.specs.Proposal.{records, listing, left_of, right_of, verdict}
use Rattle.alike.specs.Tables.{record_of, pair_of, expressions, Held, RecordIndex, left_in, right_in, PairIndex, Within}
use Rattle.alike.specs.Tables.{Kept, Decodes, Decoded, Splits, Split, SortedInto, left_at, right_at}
use Rattle.alike.specs.Verdict.{Outcome, first_fault, closing, judged}
use Rattle.alike.specs.Ready.{Ready, Recorded}
use Rattle.alike.proofs.Growing.{expr_same}
use Rattle.alike.proofs.Pointwise.{first_fault_same}
use Rattle.alike.proofs.Judging.{get_or_inside, closing_settled, judged_expressions, judged_pairs, judged_closing}

-- ---- what reading leaves

listing_is : (es ps : List ℕ) {n : ℕ} → n ≡ records es → reading_pairs ps n ≡ listing es ps
unfolding listing
listing_is es ps e = ap (reading_pairs ps) e

node_taken : (s at : List ℕ) (n r : ℕ) → r < n → node_in s (take n at) r ≡ node_in s at r
unfolding node_in
node_taken s at n r h = ap (node_at s) (get_or-take n at r 0 h)

-- the index that reading leaves is one of the records at the places read
index_read : (s at : List ℕ) {ix : List ℕ} {n : ℕ} → n ≤ length at → n ≤ length ix → Sorted node_cmp (node_in s at) n ix n
    → Sorted node_cmp (node_in s (take n at)) (length (take n at)) (take n ix) (length (take n ix))
index_read s at {ix} {n} fits room sorted =
    rw (length-take-le n at fits) (sorted_same (node_taken s at n) (sorted_taken room sorted))

-- the records decoded, n of them, and no others
decoded_taken : {es at : List ℕ} (n : ℕ) (ns : List Node) → n ≤ length ns → length at ≡ n → Decodes es at ns → Decoded es at (take n ns)
decoded_taken n ns fits e rows =
    record { long = length-take-le n ns fits ∙ sym e; rows = λ r h. get_or-take n ns r Silent (omega (arith, h, e)) ∙ rows r h }

-- what the call leaves of a slice that is just long enough
pub split_whole : {ps at : List ℕ} (was : List Pair) {pairs : List Pair} → Kept pair_of at was pairs × Splits ps at pairs → length was ≡ length at
    → Split ps at pairs
split_whole was s whole = record { long = s.0.0 ∙ whole; rows = s.1 }

module _ (es ps : List ℕ) {number count place : ℕ} {was at : List ℕ} (r : ReadTo (reading es) number count place was at)
    {number' count' place' : ℕ} {was' at' : List ℕ} (s : ReadTo (reading_pairs ps count) number' count' place' was' at') where
  pairs_listing : ReadTo (listing es ps) number' count' place' was' at'
  pairs_listing = rw (listing_is es ps r.count_is) at s

  pub ready : {ix : List ℕ} → number ≡ 0 → Sorted node_cmp (node_in es at) count ix count → 1024 ≤ length ix → number' ≡ 0
      → Ready es (take count at) (take count ix) ps (take count' at')
  ready e sorted room e' =
      let s = pairs_listing in
      let c = r.count_is in
      record {
        expressions_read = sym r.number_is ∙ e;
        at_is = places_read r;
        sorted = index_read es at (places_fit r) (omega (arith, few es)) sorted;
        pairs_read = sym s.number_is ∙ e';
        places_are = places_read s;
      }

-- ---- the pairs, over n records

module _ (ps : List ℕ) {places : List ℕ} (n : ℕ) (read : (reading_pairs ps n).number ≡ 0) (at : places ≡ (reading_pairs ps n).places) where
  pub listed_few : length places ≤ 256
  listed_few = rw at (accepted_pairs ps n read).1

  named : (i : ℕ) → i < length places → (left_at ps places i < n) × (right_at ps places i < n)
  named i h = rw at ((accepted_pairs ps n read).2 i (rw at at h))

  module _ {pairs : List Pair} (s : Split ps places pairs) where
    row_at : (i : ℕ) → i < length pairs → (left_in pairs i ≡ left_at ps places i) × (right_in pairs i ≡ right_at ps places i)
    row_at i h = let e = s.rows i (rw s.long at h) in (ap (λ (a : Pair). a.left) e, ap (λ (a : Pair). a.right) e)

    named_here : (i : ℕ) → i < length pairs → (left_at ps places i < n) × (right_at ps places i < n)
    named_here i h = named i (rw s.long at h)

    pub within_split : Within n pairs
    within_split = record { inside = λ i h. let e = row_at i h in rw (e.0, e.1) (named_here i h) }

    pub first_split : (E : ℕ → Expr) → first_fault E n (left_in pairs) (right_in pairs) (length pairs)
        ≡ first_fault E n (left_at ps places) (right_at ps places) (length places)
    first_split E =
        first_fault_same E E n (λ k h. refl) (left_in pairs) (right_in pairs) (left_at ps places) (right_at ps places) (length pairs) row_at
        named_here
        ∙ ap (λ m. first_fault E n (left_at ps places) (right_at ps places) m) s.long

-- ---- the records, and the pairs over them

module _ {es at ix ps places : List ℕ} (r : Ready es at ix ps places) where
  pub count_few : length at ≤ 1024
  count_few = rw r.at_is (few es)

  file : File (length at) (node_in es at)
  file = rw r.at_is (read_file es)

  module _ {ns : List Node} (d : Decoded es at ns) where
    file_held : File (length ns) (record_of ns)
    file_held =
        rw d.long
        (record {
          earlier = λ k h. rw (d.rows k h) (file.earlier k h);
          distinct = λ i j h l e. file.distinct i j h l (sym (d.rows i h) ∙ e ∙ d.rows j l);
        })

    pub held_ready : Held ns
    held_ready = record { few = rw d.long count_few; file = file_held }

    pub indexed_ready : RecordIndex ns ix
    indexed_ready = rw d.long (sorted_same d.rows r.sorted)

    expression_is : (k : ℕ) → k < length ns → expressions ns k ≡ expr_of es k
    unfolding expr_of
    expression_is k h =
        expr_same (length ns) (record_of ns) (node_in es (reading es).places) file_held.earlier
        (λ i l. d.rows i (rw d.long at l) ∙ ap (λ at. node_in es at i) r.at_is) k h

    count_is : length ns ≡ records es
    count_is = d.long ∙ ap length r.at_is

    inside : (i : ℕ) → i < length places → (left_of es ps i < length ns) × (right_of es ps i < length ns)
    unfolding listing left_of right_of
    inside i h = rw count_is ((accepted_pairs ps (records es) r.pairs_read).2 i (rw r.places_are at h))

    pub pairs_here : (reading_pairs ps (length ns)).number ≡ 0
    pairs_here = ap (λ (f : Found). f.number) (listing_is es ps count_is) ∙ r.pairs_read

    pub places_here : places ≡ (reading_pairs ps (length ns)).places
    places_here = r.places_are ∙ sym (ap (λ (f : Found). f.places) (listing_is es ps count_is))

    pub closing_ready : first_fault (expressions ns) (length ns) (left_at ps places) (right_at ps places) (length places) ≡ closing es ps
    unfolding closing left_of right_of
    closing_ready =
        first_fault_same (expressions ns) (expr_of es) (length ns) expression_is (left_at ps places) (right_at ps places) (left_of es ps)
        (right_of es ps) (length places)
        (λ i h. (ap (λ l. word_at ps (get_or l i 0) 4) r.places_are, ap (λ l. word_at ps (get_or l i 0) 6) r.places_are)) inside
        ∙ ap₂ (λ n m. first_fault (expr_of es) n (left_of es ps) (right_of es ps) m) count_is (ap length r.places_are)

pub pairs_ready : {pairs : List Pair} {ix : List ℕ} {entries : ℕ} → SortedInto pairs ix entries → PairIndex pairs (take entries ix)
pairs_ready o = sorted_taken o.room o.sorted

-- ---- the tables that the two readings leave

pub records_few : {es : List ℕ} {o : Reading} {was ns : List Node} {old ix : List ℕ} → Recorded es o was ns old ix → o.count ≤ 1024
records_few {es} r = rw r.indexed.read.count_is (few es)

module _ (es ps : List ℕ) {o : Reading} {was ns : List Node} {old ix : List ℕ} (r : Recorded es o was ns old ix) (z : number o.outcome ≡ 0)
    {number' count' place' : ℕ} {was' at' : List ℕ} (s : ReadTo (reading_pairs ps o.count) number' count' place' was' at') (z' : number' ≡ 0)
    (wide : 1024 ≤ length was) (room : 1024 ≤ length old) where
  tables_ready : Ready es (take o.count r.at) (take o.count ix) ps (take count' at')
  tables_ready = ready es ps r.indexed.read s z r.indexed.sorted (omega (arith, room, r.indexed.long)) z'

  records_decoded : Decoded es (take o.count r.at) (take o.count ns)
  records_decoded =
      decoded_taken o.count ns (omega (arith, records_few r, wide, r.kept.0)) (length-take-le o.count r.at (places_fit r.indexed.read)) (r.decoded z)

  pub records_held : Held (take o.count ns)
  records_held = held_ready tables_ready records_decoded

  pub records_indexed : RecordIndex (take o.count ns) (take o.count ix)
  records_indexed = indexed_ready tables_ready records_decoded

  pub pairs_read : (reading_pairs ps (length (take o.count ns))).number ≡ 0
  pairs_read = pairs_here tables_ready records_decoded

  pub places_are : take count' at' ≡ (reading_pairs ps (length (take o.count ns))).places
  places_are = places_here tables_ready records_decoded

  pub first_closing : first_fault (expressions (take o.count ns)) (length (take o.count ns)) (left_at ps (take count' at'))
      (right_at ps (take count' at')) (length (take count' at')) ≡ closing es ps
  first_closing = closing_ready tables_ready records_decoded

-- ---- the verdict, outcome by outcome

module _ (es ps : List ℕ) {number count place : ℕ} {was at : List ℕ} (r : ReadTo (reading es) number count place was at) where
  pub refused_first : number ≢ 0 → verdict number false place ≡ judged es ps
  refused_first h = ap₂ (λ n p. verdict n false p) r.number_is r.place_is ∙ sym (judged_expressions es ps (λ z. h (r.number_is ∙ z)))

  pub refused_second : number ≡ 0 → {number' count' place' : ℕ} {was' at' : List ℕ} → ReadTo (reading_pairs ps count) number' count' place' was' at'
      → number' ≢ 0 → verdict number' true place' ≡ judged es ps
  refused_second e s h =
      let s = pairs_listing es ps r s in
      ap₂ (λ n p. verdict n true p) s.number_is s.place_is
      ∙ sym (judged_pairs es ps (sym r.number_is ∙ e) (λ z. h (s.number_is ∙ z)))

  module _ (z : number ≡ 0) {number' count' place' : ℕ} {was' at' : List ℕ} (s : ReadTo (reading_pairs ps count) number' count' place' was' at')
      (z' : number' ≡ 0) {o : Outcome} (e : o ≡ closing es ps) where
    shows : (place : ℕ) → place ≡ get_or (listing es ps).places o.pair (length ps) → verdict o.number true place ≡ judged es ps
    shows place p =
        rw (p, e) (sym (judged_closing es ps (sym r.number_is ∙ z) (sym (pairs_listing es ps r s).number_is ∙ z')))

    -- a pair with a fault is there
    pub fault_inside : o.number ≢ 0 → o.pair < count'
    fault_inside f =
        let l = (pairs_listing es ps r s).count_is in
        let p = ap (λ (o : Outcome). o.pair) e in
        ⊎_elim (λ g. absurd (f (ap (λ (o : Outcome). o.number) e ∙ g.0))) (λ g. omega (arith, g.inside)) (closing_settled es ps).here

    pub closed_pair : o.number ≢ 0 → verdict o.number true (get_or at' o.pair 0) ≡ judged es ps
    closed_pair f =
        let l = pairs_listing es ps r s in
        let h = fault_inside f in
        let there = ap length (places_read l) in
        shows _
        (sym (get_or-take count' at' o.pair 0 h) ∙ ap (λ l. get_or l o.pair 0) (places_read l)
        ∙ get_or_inside (listing es ps).places o.pair 0 (length ps) (omega (arith, l.count_is)))

    pub closed_all : o.number ≡ 0 → count' ≤ o.pair → verdict 0 true (length ps) ≡ judged es ps
    closed_all f h =
        let l = (pairs_listing es ps r s).count_is in
        ap (λ n. verdict n true (length ps)) (sym f)
        ∙ shows (length ps) (sym (get_or-eq_default (listing es ps).places (length ps) {n = o.pair} (omega arith)))
