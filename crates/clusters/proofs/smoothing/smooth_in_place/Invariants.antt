use Rattle.clusters.proofs.SmoothLaws.{IsSmoothing}
use Rattle.clusters.proofs.smoothing.smooth_in_place.Given as goal

abbrev pub invariant-loop-amount : goal.invariant-loop-amount
invariant-loop-amount l = IsSmoothing l.sat l.initial.amounts l.amounts l.amount-index l.carry
