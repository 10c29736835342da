use Rattle.parallel_dp.specs.Ways.{NoneLeads}
use Rattle.parallel_dp.proofs.ways.first_way.Given as goal

-- no phase so far leads there
abbrev pub invariant-loop-phase : goal.invariant-loop-phase
invariant-loop-phase g l = NoneLeads l.i l.ways l.entry l.phase
