use Rattle.round_states.proofs.BoardLaws.{RiseTo}
use Rattle.round_states.proofs.boards.are_rising.Given as goal

-- the rows up to here rise
abbrev pub invariant-loop-index : goal.invariant-loop-index
invariant-loop-index l = RiseTo l.rows l.index
