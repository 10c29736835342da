use Rattle.clusters.specs.Options.{aged_load_of}
use Rattle.clusters.proofs.TogetherLaws.{IsSizing}
use Rattle.clusters.proofs.cuts.platoon.Given as goal

abbrev pub invariant-loop-stream : goal.invariant-loop-stream
invariant-loop-stream l = IsSizing (aged_load_of l.age l.net l.sensed) l.first l.end l.stream-items l.stream-index l.size l.load
