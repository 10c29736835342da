use Rattle.std.proofs.Common.{◌≡◌}
use Rattle.program_tests.proofs.boards.copies.read_all.Given as goal

abbrev pub invariant-loop-version : goal.invariant-loop-version
invariant-loop-version g l = (l.pass.boards ≡ l.fn.pass.boards) × (l.pass.number ≡ l.fn.pass.number)
