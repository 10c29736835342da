use Rattle.std.proofs.Common.{◌≤◌, vec_capacity}
use Rattle.round_jobs.specs.Gathering.{IsServing}
use Rattle.round_jobs.proofs.service.answer_all.Given as goal

abbrev pub invariant-loop : goal.invariant-loop
invariant-loop g l = record {
  serving : IsServing l.net (g.I.Source.state l.fn.source) (g.I.Source.state l.source) (g.O.Sink.state l.fn.out) (g.O.Sink.state l.out) l.gathered l.kept l.counter;
  room : 5 ≤ vec_capacity l.line;
}
