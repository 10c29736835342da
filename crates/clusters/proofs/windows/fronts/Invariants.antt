use Rattle.clusters.proofs.TakingLaws.{IsCutting}
use Rattle.clusters.proofs.windows.fronts.Given as goal

abbrev pub invariant-loop-phase : goal.invariant-loop-phase
invariant-loop-phase l = IsCutting l.initial.lists.items l.counts l.lists.items l.phase
