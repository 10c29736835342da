use Rattle.std.proofs.Common.{ℕ, ◌<◌}
use Rattle.road_net.specs.Joins.{HasEndsAt}
use Rattle.road_net.proofs.joins.check_ends.Given as goal

-- the links so far have their ends
abbrev pub invariant-loop-index : goal.invariant-loop-index
invariant-loop-index l = (k : ℕ) → k < l.index → HasEndsAt l.links k
