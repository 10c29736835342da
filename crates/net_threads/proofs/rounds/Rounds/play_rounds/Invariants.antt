use Rattle.std.proofs.Common.{◌≡◌, vec_len}
use Rattle.net_threads.specs.Rounds.{AreAt, AreOf}
use Rattle.net_threads.proofs.rounds.Rounds.play_rounds.Given as goal

abbrev pub invariant-loop-round : goal.invariant-loop-round
invariant-loop-round g l = record {
  at : AreAt l.round l.self;
  same : AreOf l.fn.self l.self;
  slots : l.runner ≡ vec_len l.self.nodes.all;
  count : l.runner ≡ l.fn.runner;
}
