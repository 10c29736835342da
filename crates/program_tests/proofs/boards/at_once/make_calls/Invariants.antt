use Rattle.std.proofs.Common.{◌≡◌, ◌+◌, ◌*◌, ◌≤◌}
use Rattle.program_tests.proofs.boards.at_once.make_calls.Given as goal

abbrev pub invariant-loop-k : goal.invariant-loop-k
invariant-loop-k g l = (l.pass.boards ≡ l.fn.pass.boards) × (l.pass.number ≡ l.fn.pass.number) × (100 ≤ l.pass.left + 2 * l.k)
