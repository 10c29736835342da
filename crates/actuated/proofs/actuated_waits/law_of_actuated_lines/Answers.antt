use Rattle.actuated.proofs.ActWaits.{covers}
use Rattle.actuated.proofs.actuated_waits.law_of_actuated_lines.Goals as goal

pub returns : goal.returns
returns c = covers
