use Rattle.runs.specs.Resting.{AreNew}
use Rattle.runs.proofs.network_actors.actors_of.Given as goal

abbrev pub invariant-loop-node : goal.invariant-loop-node
invariant-loop-node l = AreNew l.net l.node l.all.items
