use Rattle.arrivals.specs.Amounts.{arriving_of}
use Rattle.net_simulator.proofs.Passing.{few-of}
use Rattle.controller_jobs.proofs.actuate.report_actuated.Goals as goal

pub returns : goal.returns
returns c = record {
  run = c.in_ok-run.run';
  runs = c.in_ok-run.ensures.kept;
  report = c.in_ok-text.ensures.text;
  clean = c.in_ok-text.ensures.clean (arriving_of c.args.arrivals.now) (few-of c.args.net.now c.law_of_network.ensures c.args.arrivals.now c.requires) c.in_ok-run.ensures.clean;
}
