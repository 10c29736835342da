use Rattle.net_core.specs.States.{AreBlank}
use Rattle.net_core.proofs.first_parts.boards_of.Given as goal

abbrev pub invariant-loop-link : goal.invariant-loop-link
invariant-loop-link l = AreBlank l.link l.boards.items
