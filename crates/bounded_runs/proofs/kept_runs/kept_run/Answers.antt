use Rattle.arrivals.specs.Amounts.{arriving_of}
use Rattle.bounded_runs.proofs.Kept.{all_whole}
use Rattle.bounded_runs.proofs.kept_runs.kept_run.Goals as goal

pub returns-clause-whole : goal.returns-clause-whole
returns-clause-whole c = all_whole c.args.net.now (arriving_of c.args.arrivals.now) c.args.h.now c.run.result (λ run is. c.law_of_runs.ensures.whole (arriving_of c.args.arrivals.now) c.args.h.now run c.requires.lawful is) c.run.ensures
