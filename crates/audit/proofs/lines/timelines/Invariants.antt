use Rattle.std.proofs.Common.{◌≡◌}
use Rattle.audit.proofs.lines.timelines.Given as goal

-- the rows of each line up to here are those of a timeline
abbrev pub invariant-loop-rows : goal.invariant-loop-rows
invariant-loop-rows l = (goal.iterator-loop-rows).can_next l.rows-iterator × (goal.iterator-loop-rows).is_finite l.rows-iterator × (l.all.items ≡ l.yielded)
