use Rattle.outflow.proofs.AddLaws.{IsAddingParts}
use Rattle.outflow.proofs.exit_flow.add_platoon.Given as goal

abbrev pub invariant-loop-place : goal.invariant-loop-place
invariant-loop-place l = IsAddingParts l.net l.exit l.first l.initial.amounts l.parts l.amounts l.place
