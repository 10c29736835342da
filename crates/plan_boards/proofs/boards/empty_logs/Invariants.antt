use Rattle.std.proofs.Common.{◌≡◌, [], length}
use Rattle.std.specs.Prelude.{All}
use Rattle.plan_boards.proofs.boards.empty_logs.Given as goal

abbrev pub invariant-loop : goal.invariant-loop
invariant-loop l = (length l.logs.items ≡ l.counter) × All (λ log. log.events ≡ []) l.logs.items
