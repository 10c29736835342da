use Rattle.signal_safety.proofs.Lines.{safe}
use Rattle.signal_safety.proofs.law_of_safety.Goals as goal

pub returns : goal.returns
returns c = safe
