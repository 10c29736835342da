use Rattle.control_flow.proofs.RecallLaws.{lawful-without}
use Rattle.waits.proofs.Rounds.{kept}
use Rattle.waits.proofs.laws.law_of_rounds.Goals as goal

pub returns-clause-rounds : goal.returns-clause-rounds
returns-clause-rounds c = kept

pub returns-clause-marks : goal.returns-clause-marks
returns-clause-marks c = lawful-without
