use Rattle.clusters.specs.Taking.{IsFirstOf}
use Rattle.clusters.proofs.windows.first_waiting.Given as goal

abbrev pub invariant-loop-phase : goal.invariant-loop-phase
invariant-loop-phase l = IsFirstOf l.lists l.counts l.phase l.first
