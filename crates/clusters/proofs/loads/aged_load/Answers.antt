use Rattle.std.proofs.Common.{◌∙◌, get_or, arith}
use Rattle.std.specs.Prelude.{Some}
use Rattle.clusters.specs.Options.{amount_load}
use Rattle.clusters.proofs.LoadLaws.{aged-grown, counted-more}
use Rattle.clusters.proofs.loads.aged_load.Goals as goal

pub loop-amount-preserved : goal.loop-amount-preserved
loop-amount-preserved c =
    counted-more (amount_load (Some c.args.age) c.args.weight c.args.stood) c.args.amounts.now c.loop-amount.amount-index c.loop-amount.load c.amount_load-load.result c.loop-amount.invariant (omega arith)
    (c.amount_load-load.ensures.value ∙ aged-grown c.args.age c.args.weight c.args.stood (get_or c.args.amounts.now c.loop-amount.amount-index 0) c.grown_weight-grown.result c.grown_weight-grown.ensures.value)
    c.amount_load-load.ensures.most
