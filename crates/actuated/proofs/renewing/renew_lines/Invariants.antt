use Rattle.actuated.specs.Rounds.{AreRenewed}
use Rattle.actuated.proofs.renewing.renew_lines.Given as goal

abbrev pub invariant-loop-node : goal.invariant-loop-node
invariant-loop-node l = AreRenewed l.net l.near l.now l.node l.initial.lines.items l.lines.items
