use Rattle.std.specs.Prelude.{None}
use Rattle.clusters.specs.Steps.{ArePlatoonsAsked}
use Rattle.clusters.proofs.PlatoonLaws.{ArePhases}
use Rattle.clusters.proofs.node_platoons.platoons.Given as goal

abbrev pub invariant-loop-phase : goal.invariant-loop-phase
invariant-loop-phase l = ArePhases (λ k. ArePlatoonsAsked None 0 None l.net l.node k l.sensed l.heard) l.lists.items l.phase
