use Rattle.std.proofs.Common.{All, take}
use Rattle.net_parts.specs.Bounds.{IsBoundedTurn}
use Rattle.net_build.proofs.bounds.check_turns.Given as goal

-- the turns so far are within their bounds
abbrev pub invariant-loop-index : goal.invariant-loop-index
invariant-loop-index l = All IsBoundedTurn (take l.index l.turns)
