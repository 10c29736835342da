use Rattle.std.proofs.Common.{◌≡◌}
use Rattle.snap_boards.proofs.copies.add_row.Given as goal

abbrev pub invariant-loop : goal.invariant-loop
invariant-loop g l = (goal.iterator-loop g).can_next l.iterator' × (goal.iterator-loop g).is_finite l.iterator' × (l.forecast ≡ l.initial.forecast)
