use Rattle.clusters.proofs.TakingLaws.{IsTaking}
use Rattle.clusters.proofs.windows.longest_front.Given as goal

abbrev pub invariant-loop-taken : goal.invariant-loop-taken
invariant-loop-taken l = IsTaking l.lists l.counts l._taken
