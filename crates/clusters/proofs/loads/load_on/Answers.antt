use Rattle.clusters.specs.Inflow.{sense_of}
use Rattle.clusters.proofs.LoadLaws.{whole-load}
use Rattle.clusters.proofs.loads.load_on.Goals as goal

pub returns-in-None-clause-value : goal.returns-in-None-clause-value
returns-in-None-clause-value c =
    whole-load c.args.age c.link-weight.result c.args.net.now c.args.link (sense_of c.args.sensed.now c.args.link).stood c.args.whole c.args.amounts.now c.in-None.is c.link-weight.ensures.value c.requires.whole
