use Rattle.clusters.proofs.TakingLaws.{IsCounting}
use Rattle.clusters.proofs.windows.count_waiting.Given as goal

abbrev pub invariant-loop-phase : goal.invariant-loop-phase
invariant-loop-phase l = IsCounting l.lists l.counts l.waiting l.phase
