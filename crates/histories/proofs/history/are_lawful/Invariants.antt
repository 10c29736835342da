use Rattle.std.proofs.Common.{take}
use Rattle.histories.specs.Progress.{HasCome}
use Rattle.histories.proofs.history.are_lawful.Given as goal

abbrev pub invariant-loop-node : goal.invariant-loop-node
invariant-loop-node l = HasCome l.net (take l.node-index l.nodes) l.progress
