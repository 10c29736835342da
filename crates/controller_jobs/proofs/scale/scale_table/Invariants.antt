use Rattle.arrivals.specs.Amounts.{arriving_of}
use Rattle.controller_jobs.proofs.FactorLaws.{HasScaled}
use Rattle.controller_jobs.proofs.scale.scale_table.Given as goal

-- the lines of the factors so far
abbrev pub invariant-loop-place : goal.invariant-loop-place
invariant-loop-place l = HasScaled l.net (arriving_of l.arrivals) l.range.first l.range.step l.place l.text.items
