use Rattle.outflow.proofs.ServedLaws.{IsFilling}
use Rattle.outflow.proofs.exit_flow.fill_exit_flow.Given as goal

abbrev pub invariant-loop-i : goal.invariant-loop-i
invariant-loop-i l = IsFilling l.net l.node l.exit l.now l.window.lists l.servings.phases.now l.servings.served.now l.taken l.amounts l.i
