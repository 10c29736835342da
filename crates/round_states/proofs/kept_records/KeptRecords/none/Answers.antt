use Rattle.round_states.proofs.KeptLaws.{kept-none}
use Rattle.round_states.proofs.kept_records.KeptRecords.none.Goals as goal

pub returns : goal.returns
returns c = λ net. kept-none net _ c.new.ensures.items
