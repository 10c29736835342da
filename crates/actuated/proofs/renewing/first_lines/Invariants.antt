use Rattle.actuated.specs.Rounds.{AreFirstLines}
use Rattle.actuated.proofs.renewing.first_lines.Given as goal

abbrev pub invariant-loop-node : goal.invariant-loop-node
invariant-loop-node l = AreFirstLines l.net l.node l.lines.items
