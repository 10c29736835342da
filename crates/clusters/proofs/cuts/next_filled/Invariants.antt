use Rattle.clusters.specs.Steps.{IsEmpty}
use Rattle.clusters.proofs.cuts.next_filled.Given as goal

abbrev pub invariant-loop-x : goal.invariant-loop-x
invariant-loop-x l = IsEmpty l.series l.from l.x
