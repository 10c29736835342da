use Rattle.std.proofs.Common.{◌-◌, length}
use Rattle.clusters.specs.Steps.{span_at}
use Rattle.clusters.specs.Options.{aged_load_of}
use Rattle.clusters.proofs.GatherLaws.{IsGathering}
use Rattle.clusters.proofs.cuts.gather_platoons.Given as goal

abbrev pub invariant-loop-first : goal.invariant-loop-first
invariant-loop-first l = IsGathering (aged_load_of l.age l.net l.sensed) l.cutting.gap l.cutting.rate (span_at l.cutting.first l.cutting.most) l.sensed.now l.series l.streams l.platoons.items l.from

abbrev pub decreases-loop-first : goal.decreases-loop-first
decreases-loop-first l = length l.series - l.from
