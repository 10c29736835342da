use Rattle.std.proofs.Common.{◌≡◌}
use Rattle.library_tests.proofs.rounds.steps.stepped.Given as goal

-- the core is one of the network
abbrev pub invariant-loop-name : goal.invariant-loop-name
invariant-loop-name g l = record {
  net : l.core.net ≡ l.net;
}
