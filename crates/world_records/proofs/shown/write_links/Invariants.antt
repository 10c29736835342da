use Rattle.std.proofs.Common.{ℕ, ◌<◌, map}
use Rattle.std.specs.List.{range_with_len}
use Rattle.net_simulator.specs.Counts.{counts_at}
use Rattle.world_records.specs.Records.{link_record_of}
use Rattle.world_records.specs.Told.{AreToldCounts}
use Rattle.world_records.specs.Written.{Adds}
use Rattle.world_records.proofs.shown.write_links.Given as goal

-- the records of the first links are written, and their totals can be told
abbrev pub invariant-loop-link : goal.invariant-loop-link
invariant-loop-link l =
    Adds l.fn.out l.out (map (link_record_of l.net l.totals) (range_with_len 0 l.link))
    × ((link : ℕ) → link < l.link → AreToldCounts (counts_at l.totals link))
