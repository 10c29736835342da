use Rattle.std.proofs.Common.{◌≡◌, take}
use Rattle.round_states.proofs.boards.forecast.Given as goal

-- the rows so far
abbrev pub invariant-loop-row : goal.invariant-loop-row
invariant-loop-row l = l.forecast ≡ take l.row-index l.rows
