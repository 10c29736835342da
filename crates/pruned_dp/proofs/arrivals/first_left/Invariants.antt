use Rattle.pruned_dp.specs.Firsts.{IsFirstOf}
use Rattle.pruned_dp.proofs.arrivals.first_left.Given as goal

-- what comes first of the phases so far
abbrev pub invariant-loop-phase : goal.invariant-loop-phase
invariant-loop-phase l = IsFirstOf l.i l.counts l.phase l.first
