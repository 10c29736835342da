use Rattle.std.specs.List.{flat_map, range_with_len}
use Rattle.world_records.specs.Written.{Adds}
use Rattle.queue_series.specs.LinkStates.{HaveMoved, kept_records}
use Rattle.queue_series.proofs.series.write_second.Given as goal

abbrev pub invariant-loop-link : goal.invariant-loop-link
invariant-loop-link l = HaveMoved l.world l.initial.link_states.items l.link l.link_states.items × Adds l.fn.out l.out (flat_map (kept_records l.net l.world l.initial.link_states.items) (range_with_len 0 l.link))
