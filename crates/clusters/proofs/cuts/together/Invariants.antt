use Rattle.std.proofs.Common.{◌≡◌, length}
use Rattle.clusters.proofs.TogetherLaws.{IsTogether}
use Rattle.clusters.proofs.cuts.together.Given as goal

abbrev pub invariant-loop-stream : goal.invariant-loop-stream
invariant-loop-stream l = (length l.series ≡ length l.initial.series) × IsTogether l.streams l.series l.stream-index
