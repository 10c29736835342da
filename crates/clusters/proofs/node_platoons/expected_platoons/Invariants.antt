use Rattle.net_parts.specs.Outline.{phase_links_at}
use Rattle.clusters.specs.Platoons.{streams_of}
use Rattle.clusters.specs.Options.{AreExpectedIn}
use Rattle.clusters.proofs.PlatoonLaws.{ArePhases}
use Rattle.clusters.proofs.node_platoons.expected_platoons.Given as goal

abbrev pub invariant-loop-phase : goal.invariant-loop-phase
invariant-loop-phase l = ArePhases (λ k. AreExpectedIn l.net l.node l.head l.sensed k (streams_of l.net l.sensed l.heard (phase_links_at l.net l.node k))) l.lists.items l.phase
