use Rattle.clusters.proofs.CutLaws.{IsGrowing}
use Rattle.clusters.proofs.cuts.run_end.Given as goal

abbrev pub invariant-loop-x : goal.invariant-loop-x
invariant-loop-x l = IsGrowing l.gap l.rate l.most l.series l.first l.end l.peak l.x
