-- `alike::verdict_of` meets its contract: the two readings, then the first fault.
use Rattle.std.proofs.Common.{rules, arith, ap, refl, ◌∙◌}
use Rattle.std.proofs.Math.Seq.{length-take-le}
use Rattle.records.specs.Refusals.{number}
use Rattle.records.proofs.Refusals.{refusal_some}
use Rattle.files.proofs.Places.{places_fit}
use Rattle.alike.proofs.Readying.{refused_first, refused_second, fault_inside, closed_pair, closed_all}
use Rattle.alike.proofs.Readying.{records_few, records_held, records_indexed, pairs_read, places_are, first_closing}
use Rattle.alike.proofs.verdict_of.Goals as goal

pub returns-in-Err : goal.returns-in-Err
returns-in-Err c =
    let read = rw c.in-Err.is at c.read_records-reading.ensures.indexed.read in
    refused_first c.args.expressions.now c.args.pairs.now read (refusal_some c.in-Err.refusal)

pub returns-in-Err-outcome : goal.returns-in-Err-outcome
returns-in-Err-outcome c =
    let read = rw c.in-Err-outcome.is at c.read_pairs-listing.ensures in
    refused_second c.args.expressions.now c.args.pairs.now c.read_records-reading.ensures.indexed.read (ap number c.in_default.is) read
    (refusal_some c.in-Err-outcome.refusal)

pub slice_bounds-nodes-end : goal.slice_bounds-nodes-end
slice_bounds-nodes-end c = let few = records_few c.read_records-reading.ensures in let long = c.read_records-reading.ensures.kept.0 in search rules

pub slice_bounds-records-end : goal.slice_bounds-records-end
slice_bounds-records-end c = let few = records_few c.read_records-reading.ensures in let long = c.read_records-reading.ensures.kept.0 in search rules

pub slice_bounds-index-end : goal.slice_bounds-index-end
slice_bounds-index-end c =
    let few = records_few c.read_records-reading.ensures in let long = c.read_records-reading.ensures.indexed.long in search rules

pub slice_bounds-records-end-2 : goal.slice_bounds-records-end-2
slice_bounds-records-end-2 c =
    let few = records_few c.read_records-reading.ensures in let long = c.read_records-reading.ensures.indexed.long in search rules

pub invariant_of-records : goal.invariant_of-records
invariant_of-records c =
    record {
      held = records_held c.args.expressions.now c.args.pairs.now c.read_records-reading.ensures (ap number c.in_default.is)
          c.read_pairs-listing.ensures (ap number c.in_default-outcome.is) (omega arith) (omega arith);
      sorted = records_indexed c.args.expressions.now c.args.pairs.now c.read_records-reading.ensures (ap number c.in_default.is)
          c.read_pairs-listing.ensures (ap number c.in_default-outcome.is) (omega arith) (omega arith);
    }

pub settle-fault-requires : goal.settle-fault-requires
settle-fault-requires c =
    record {
      read = pairs_read c.args.expressions.now c.args.pairs.now c.read_records-reading.ensures (ap number c.in_default.is)
          c.read_pairs-listing.ensures (ap number c.in_default-outcome.is) (omega arith) (omega arith);
      at = places_are c.args.expressions.now c.args.pairs.now c.read_records-reading.ensures (ap number c.in_default.is)
          c.read_pairs-listing.ensures (ap number c.in_default-outcome.is) (omega arith) (omega arith);
    }

pub bounds-places-pair : goal.bounds-places-pair
bounds-places-pair c =
    let closing = c.in-Some.ensures ∙ first_closing c.args.expressions.now c.args.pairs.now c.read_records-reading.ensures
    (ap number c.in_default.is) c.read_pairs-listing.ensures (ap number c.in_default-outcome.is) (omega arith) (omega arith) in
    let inside = fault_inside c.args.expressions.now c.args.pairs.now c.read_records-reading.ensures.indexed.read (ap number c.in_default.is)
    c.read_pairs-listing.ensures (ap number c.in_default-outcome.is) closing (refusal_some c.in-Some.field-0.refusal) in
    let fits = places_fit c.read_pairs-listing.ensures in omega arith

pub offset_bounds-places-pair : goal.offset_bounds-places-pair
offset_bounds-places-pair c =
    let closing = c.in-Some.ensures ∙ first_closing c.args.expressions.now c.args.pairs.now c.read_records-reading.ensures
    (ap number c.in_default.is) c.read_pairs-listing.ensures (ap number c.in_default-outcome.is) (omega arith) (omega arith) in
    let inside = fault_inside c.args.expressions.now c.args.pairs.now c.read_records-reading.ensures.indexed.read (ap number c.in_default.is)
    c.read_pairs-listing.ensures (ap number c.in_default-outcome.is) closing (refusal_some c.in-Some.field-0.refusal) in
    let fits = places_fit c.read_pairs-listing.ensures in search rules

pub returns-in-Some : goal.returns-in-Some
returns-in-Some c =
    let closing = c.in-Some.ensures ∙ first_closing c.args.expressions.now c.args.pairs.now c.read_records-reading.ensures
    (ap number c.in_default.is) c.read_pairs-listing.ensures (ap number c.in_default-outcome.is) (omega arith) (omega arith) in
    closed_pair c.args.expressions.now c.args.pairs.now c.read_records-reading.ensures.indexed.read (ap number c.in_default.is)
    c.read_pairs-listing.ensures (ap number c.in_default-outcome.is) closing (refusal_some c.in-Some.field-0.refusal)

pub returns-in-None : goal.returns-in-None
returns-in-None c =
    let fits = places_fit c.read_pairs-listing.ensures in
    let closing = c.in-None.ensures ∙ first_closing c.args.expressions.now c.args.pairs.now c.read_records-reading.ensures
    (ap number c.in_default.is) c.read_pairs-listing.ensures (ap number c.in_default-outcome.is) (omega arith) (omega arith) in
    closed_all c.args.expressions.now c.args.pairs.now c.read_records-reading.ensures.indexed.read (ap number c.in_default.is)
    c.read_pairs-listing.ensures (ap number c.in_default-outcome.is) closing refl
    (omega (arith, length-take-le c.read_pairs-listing.result.count c.read_pairs-listing.new.at fits))
