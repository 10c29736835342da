use Rattle.std.proofs.Common.{◌∙◌, arith}
use Rattle.clusters.proofs.SeenLaws.{inflow-made, written}
use Rattle.clusters.proofs.inflows.inflow.Goals as goal

pub returns-clause-value : goal.returns-clause-value
returns-clause-value c =
    written c.in_ok-amounts.amounts.items c.add_forecast.new.amounts c.in_ok-amounts.amounts.len (omega arith) (omega arith)
    ∙ inflow-made c.args.now c.args.look c.args.travel c.args.queue c.args.coming.now c.args.rows.now c.as_mut_slice.result.now c.add_forecast.new.amounts
    (rw c.as_mut_slice.ensures.value c.in_ok-amounts.ensures) (omega arith) c.add_forecast.ensures.value (omega arith)
