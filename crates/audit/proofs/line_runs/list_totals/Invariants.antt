use Rattle.std.proofs.Common.{◌≡◌, map}
use Rattle.std.specs.List.{range_with_len}
use Rattle.net_simulator.specs.Counts.{counts_at}
use Rattle.audit.proofs.line_runs.list_totals.Given as goal

-- what was counted of the links so far
abbrev pub invariant-loop-link : goal.invariant-loop-link
invariant-loop-link l = l.links.items ≡ map (counts_at l.world.counts) (range_with_len 0 l.link)
