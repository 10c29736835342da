use Rattle.std.proofs.Common.{◌≡◌, sum_by, take}
use Rattle.fixed_plans.specs.Lines.{span}
use Rattle.fixed_plans.proofs.cycles.cycle_length.Given as goal

abbrev pub invariant-loop-row : goal.invariant-loop-row
invariant-loop-row l = l.length ≡ sum_by (span l.plan) (take l.row-index l.cycle)
