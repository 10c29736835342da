use Rattle.std.proofs.Common.{◌∙◌, ap, arith}
use Rattle.clusters.proofs.SeenLaws.{leaving-made, sense-within, written}
use Rattle.clusters.proofs.inflows.link_outflow.Goals as goal

pub inflow-requires-clause-amounts : goal.inflow-requires-clause-amounts
inflow-requires-clause-amounts c =
    omega (arith, sense-within c.args.sensed.now c.args.l c.sensed_of-queue.result.0 c.sensed_of-queue.result.1.now c.sensed_of-queue.ensures.queue c.sensed_of-queue.ensures.coming)

pub returns : goal.returns
returns c =
    written c.in_ok-amounts.amounts.items c.smooth_in_place.new.amounts c.in_ok-amounts.amounts.len (omega arith) (omega arith)
    ∙ leaving-made c.args.net.now c.args.sensed.now c.args.heard.now c.args.l c.link-link.result c.run.result.look c.sensed_of-queue.result.0 c.sensed_of-queue.result.1.now c.rows_of-rows.result.now c.as_mut_slice.result.now c.smooth_in_place.new.amounts
    c.link-link.ensures.value (ap (λ r. r.look) c.run.ensures.value) c.sensed_of-queue.ensures.queue c.sensed_of-queue.ensures.coming c.rows_of-rows.ensures.value
    (c.as_mut_slice.ensures.value ∙ c.in_ok-amounts.ensures.value) c.smooth_in_place.ensures
