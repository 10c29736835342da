use Rattle.std.proofs.Common.{slice_index}
use Rattle.arrivals.specs.Amounts.{arriving_of}
use Rattle.spillback_control.proofs.RunLaws.{last-lawful, last-safe, last-show}
use Rattle.spillback_control.proofs.spill_runs.spill_actuated.Goals as goal

pub returns-clause-run : goal.returns-clause-run
returns-clause-run c = c.in_ok-run.ensures.run.actuated

pub returns-clause-lawful : goal.returns-clause-lawful
returns-clause-lawful c is = last-lawful c.args.net.now c.law_of_network.ensures (arriving_of c.args.arrivals.now) (slice_index c.args.store.now) c.in_ok-run.run'.totals is

pub returns-clause-safe : goal.returns-clause-safe
returns-clause-safe c is = last-safe c.args.net.now c.law_of_network.ensures (arriving_of c.args.arrivals.now) (slice_index c.args.store.now) c.in_ok-run.run'.totals is

pub returns-clause-signs : goal.returns-clause-signs
returns-clause-signs c is = last-show c.args.net.now c.law_of_network.ensures (arriving_of c.args.arrivals.now) (slice_index c.args.store.now) c.in_ok-run.run'.totals is
