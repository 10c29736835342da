use Rattle.arrivals.proofs.JoinLaws.{HasJoined}
use Rattle.arrivals.proofs.joining.join.Given as goal

-- the rows so far are joined
abbrev pub invariant-loop-row : goal.invariant-loop-row
invariant-loop-row l = HasJoined l.rows l.row-index l.kept.items
