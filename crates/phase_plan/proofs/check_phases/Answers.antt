use Rattle.std.proofs.Common.{arith}
use Rattle.std.proofs.lemmas.List.Elements.{All-more}
use Rattle.phase_plan.specs.Phases.{IsPhase, no_phase}
use Rattle.phase_plan.proofs.check_phases.Goals as goal

pub loop-k-preserved : goal.loop-k-preserved
loop-k-preserved c = All-more IsPhase _ _ no_phase (omega arith) c.loop-k.invariant c.in_default.ensures.none
