use Rattle.std.proofs.Common.{map}
use Rattle.std.specs.List.{range_with_len}
use Rattle.world_records.specs.Written.{Adds}
use Rattle.queue_series.specs.Series.{peak_record}
use Rattle.queue_series.specs.LinkStates.{peak_of}
use Rattle.queue_series.proofs.series.write_peaks.Given as goal

abbrev pub invariant-loop-link : goal.invariant-loop-link
invariant-loop-link l = Adds l.fn.out l.out (map (peak_record l.net (peak_of l.link_states)) (range_with_len 0 l.link))
