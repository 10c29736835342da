use Rattle.std.proofs.Common.{All, take}
use Rattle.phase_plan.specs.Phases.{IsPhase}
use Rattle.phase_plan.proofs.check_phases.Given as goal

-- the phases so far are in bounds
abbrev pub invariant-loop-k : goal.invariant-loop-k
invariant-loop-k l = All IsPhase (take l.k l.fn.phases)
