use Rattle.signal_safety.proofs.RowsApart.{rows-apart}
use Rattle.signal_safety.proofs.law_of_rows.Goals as goal

pub returns : goal.returns
returns c = rows-apart
