use Rattle.std.proofs.Common.{All, take}
use Rattle.schedule_meaning.specs.Instances.{IsSpaced}
use Rattle.schedule_meaning.proofs.instances.check_order.Given as goal

-- the lists so far are spaced
abbrev pub invariant-loop-phase : goal.invariant-loop-phase
invariant-loop-phase l = All IsSpaced (take l.phase l.lists)
