use Rattle.std.proofs.Common.{◌≡◌}
use Rattle.program_tests.proofs.boards.waiters.make_rounds.Given as goal

abbrev pub invariant-loop-round : goal.invariant-loop-round
invariant-loop-round g l = l.pass.boards ≡ l.fn.pass.boards
