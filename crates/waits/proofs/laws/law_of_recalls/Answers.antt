use Rattle.waits.proofs.Recalled.{recalls}
use Rattle.waits.proofs.laws.law_of_recalls.Goals as goal

pub returns : goal.returns
returns c = recalls
