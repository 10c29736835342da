use Rattle.std.proofs.Common.{◌≡◌}
use Rattle.std.specs.List.{flat_map, range_with_len}
use Rattle.net_simulator.specs.Shown.{cumulative_of_lines}
use Rattle.arrivals.specs.Amounts.{arriving_of}
use Rattle.net_simulator.specs.Worlds.{Stands, line_in, signs_by}
use Rattle.world_records.specs.Written.{Adds}
use Rattle.queue_series.specs.Series.{second_records}
use Rattle.queue_series.specs.LinkStates.{AreLinkStates}
use Rattle.queue_series.proofs.series.write_seconds.Given as goal

abbrev pub invariant-loop-second : goal.invariant-loop-second
invariant-loop-second l =
    (l.world.second ≡ l._second) × Stands l.net (arriving_of l.arrivals) (signs_by (line_in l.lines)) l.world
    × AreLinkStates l.net (cumulative_of_lines l.net (arriving_of l.arrivals) l.lines) l._second l.link_states.items
    × Adds l.fn.out l.out (flat_map (second_records l.net (cumulative_of_lines l.net (arriving_of l.arrivals) l.lines)) (range_with_len 0 l._second))
