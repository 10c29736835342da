use Rattle.std.proofs.Common.{ap}
use Rattle.arrivals.specs.Amounts.{arriving_of}
use Rattle.audit.specs.LineRuns.{sheet_of}
use Rattle.net_simulator.proofs.Passing.{few-of}
use Rattle.audit.specs.declared.sheet.Sheet.{Sheet}
use Rattle.controller_jobs.proofs.fixed.report_fixed.Goals as goal

pub returns : goal.returns
returns c = record {
  sheet = sheet_of c.in_ok-run.run';
  lines = ap (λ (s : Sheet). s.lines) c.in_ok-run.ensures.value;
  shape = c.in_ok-run.ensures.shape;
  shows = c.in_ok-run.ensures.clean;
  safe = c.in_ok-run.ensures.safe;
  waits = c.in_ok-run.ensures.waits;
  report = c.in_ok-text.ensures.text;
  clean = c.in_ok-text.ensures.clean (arriving_of c.args.arrivals.now) (few-of c.args.net.now c.law_of_network.ensures c.args.arrivals.now c.requires.arrivals) c.in_ok-run.ensures.clean;
}
