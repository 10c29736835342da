use Rattle.round_decisions.specs.Steps.{HaveTurned, state_of}
use Rattle.round_decisions.proofs.rounds.take_turns.Given as goal

abbrev pub invariant-loop-node : goal.invariant-loop-node
invariant-loop-node g l = HaveTurned l.net (state_of l.round l.fn.waiting l.fn.decided) l.node l.waiting l.decided
