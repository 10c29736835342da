use Rattle.runs.proofs.Planning.{covers}
use Rattle.runs.proofs.planned_waits.law_of_planned_lines.Goals as goal

pub returns : goal.returns
returns c = covers
