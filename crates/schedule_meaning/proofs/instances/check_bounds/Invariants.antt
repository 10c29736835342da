use Rattle.std.proofs.Common.{All, take}
use Rattle.switch_rules.specs.Serving.{IsCluster}
use Rattle.schedule_meaning.proofs.instances.check_bounds.Given as goal

-- the lists so far are in bounds
abbrev pub invariant-loop-phase : goal.invariant-loop-phase
invariant-loop-phase l = All (All IsCluster) (take l.phase l.lists)
