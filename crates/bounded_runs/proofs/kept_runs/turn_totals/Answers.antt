use Rattle.arrivals.specs.Amounts.{arriving_of}
use Rattle.bounded_runs.proofs.Kept.{all_turned}
use Rattle.bounded_runs.proofs.kept_runs.turn_totals.Goals as goal

pub returns : goal.returns
returns c = all_turned c.args.net.now (arriving_of c.args.arrivals.now) c.totals_of_turns.result c.totals_of_turns.ensures
