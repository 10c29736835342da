use Rattle.std.proofs.Common.{ℕ, ◌<◌}
use Rattle.road_net.specs.Stored.{HasFewAt}
use Rattle.road_net.proofs.joins.check_entries.Given as goal

-- the lists so far have at most 16 links
abbrev pub invariant-loop-index : goal.invariant-loop-index
invariant-loop-index l = (k : ℕ) → k < l.index → HasFewAt l.entry_links k
