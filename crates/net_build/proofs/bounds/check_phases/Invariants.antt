use Rattle.std.proofs.Common.{All, take}
use Rattle.net_parts.specs.Bounds.{IsBoundedPhase}
use Rattle.net_build.proofs.bounds.check_phases.Given as goal

-- the phases so far are within their bounds
abbrev pub invariant-loop-index : goal.invariant-loop-index
invariant-loop-index l = All IsBoundedPhase (take l.index l.phases)
