use Rattle.std.proofs.Common.{◌∙◌, ◌≤◌, ap, arith, length, sum, sum_by, slice_range}
use Rattle.net_parts.specs.Outline.{link_at}
use Rattle.clusters.specs.Inflow.{sense_of}
use Rattle.clusters.specs.Options.{amount_load, aged_load_of}
use Rattle.clusters.proofs.TogetherLaws.{All-slice_range, sizing-more, stream-few, stream-small}
use Rattle.clusters.proofs.cuts.platoon.Goals as goal

pub total-amount-requires : goal.total-amount-requires
total-amount-requires c =
    omega (arith, stream-few c.as_slice-stream-items.result.now c.loop-stream.stream-index c.stream-item.result c.as_slice.result.now c.args.first c.args.end (rw c.as_slice-stream-items.ensures c.requires.amounts) (omega arith) c.stream-item.is c.as_slice.ensures c.requires.end)

pub overflow_add-size : goal.overflow_add-size
overflow_add-size c =
    omega (arith, ap length c.as_slice-stream-items.ensures, c.loop-stream.invariant.fits, c.total-amount.ensures, stream-few c.as_slice-stream-items.result.now c.loop-stream.stream-index c.stream-item.result c.as_slice.result.now c.args.first c.args.end (rw c.as_slice-stream-items.ensures c.requires.amounts) (omega arith) c.stream-item.is c.as_slice.ensures c.requires.end)

pub load_on-requires-clause-few : goal.load_on-requires-clause-few
load_on-requires-clause-few c =
    omega (arith, c.total-amount.ensures, stream-few c.as_slice-stream-items.result.now c.loop-stream.stream-index c.stream-item.result c.as_slice.result.now c.args.first c.args.end (rw c.as_slice-stream-items.ensures c.requires.amounts) (omega arith) c.stream-item.is c.as_slice.ensures c.requires.end)

pub overflow_add-load : goal.overflow_add-load
overflow_add-load c =
    omega (arith, ap length c.as_slice-stream-items.ensures, c.loop-stream.invariant.loads_fit, c.load_on.ensures.most, c.total-amount.ensures, stream-few c.as_slice-stream-items.result.now c.loop-stream.stream-index c.stream-item.result c.as_slice.result.now c.args.first c.args.end (rw c.as_slice-stream-items.ensures c.requires.amounts) (omega arith) c.stream-item.is c.as_slice.ensures c.requires.end)

pub load_on-requires-clause-small : goal.load_on-requires-clause-small
load_on-requires-clause-small c =
    rw c.as_slice.ensures
    (All-slice_range (λ x. x ≤ 5000) c.stream-item.result.amounts c.args.first c.args.end (stream-small c.as_slice-stream-items.result.now c.loop-stream.stream-index c.stream-item.result (rw c.as_slice-stream-items.ensures c.requires.amounts) (omega arith) c.stream-item.is))

pub loop-stream-preserved : goal.loop-stream-preserved
loop-stream-preserved c =
    let total = c.total-amount.ensures ∙ ap (λ xs. sum (slice_range xs c.args.first c.args.end)) c.as_slice.ensures in
    let load =
    c.load_on.ensures.value
    ∙ ap (λ xs. sum_by (amount_load c.args.age (link_at c.args.net.now c.stream-item.result.link).weight (sense_of c.args.sensed.now c.stream-item.result.link).stood) (slice_range xs c.args.first c.args.end)) c.as_slice.ensures in
    sizing-more (aged_load_of c.args.age c.args.net.now c.args.sensed.now) c.args.first c.args.end c.as_slice-stream-items.result.now c.loop-stream.stream-index c.loop-stream.size c.loop-stream.load c.total-amount.result c.load_on.result c.stream-item.result
    c.loop-stream.invariant (omega arith) c.stream-item.is (rw c.as_slice-stream-items.ensures c.requires.amounts) c.requires.end total load c.load_on.ensures.most
