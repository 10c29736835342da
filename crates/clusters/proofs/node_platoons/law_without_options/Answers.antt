use Rattle.clusters.proofs.AskedLaws.{without-options}
use Rattle.clusters.proofs.node_platoons.law_without_options.Goals as goal

pub returns : goal.returns
returns c = without-options
