use Rattle.waits.proofs.Soon.{next-soon}
use Rattle.waits.proofs.laws.law_of_servings.Goals as goal

pub returns : goal.returns
returns c = next-soon
