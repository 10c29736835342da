use Rattle.std.proofs.Common.{slice_index}
use Rattle.arrivals.specs.Amounts.{arriving_of}
use Rattle.net_simulator.specs.Worlds.{line_in, signs_by}
use Rattle.spillback_world.specs.Counting.{HaveCounted}
use Rattle.spillback_world.proofs.counts.spill_links.Given as goal

abbrev pub invariant-loop-second : goal.invariant-loop-second
invariant-loop-second l = HaveCounted l.net (arriving_of l.arrivals) (slice_index l.store) (signs_by (line_in l.lines.all.now)) l._second l.world l.counts.items
