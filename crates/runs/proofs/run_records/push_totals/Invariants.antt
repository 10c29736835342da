use Rattle.std.proofs.Common.{◌≡◌, map, vec_capacity}
use Rattle.std.specs.List.{range_with_len}
use Rattle.net_simulator.specs.Counts.{counts_at}
use Rattle.runs.proofs.run_records.push_totals.Given as goal

abbrev pub invariant-loop-link : goal.invariant-loop-link
invariant-loop-link l = record {
  totals : l.links.items ≡ map (counts_at l.world.counts) (range_with_len 0 l.link);
  capacity : vec_capacity l.links ≡ vec_capacity l.initial.links;
}
