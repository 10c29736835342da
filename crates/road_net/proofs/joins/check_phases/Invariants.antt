use Rattle.std.proofs.Common.{ℕ, ◌<◌}
use Rattle.road_net.specs.Joins.{IsPhasedAt}
use Rattle.road_net.proofs.joins.check_phases.Given as goal

-- the links so far are named as they must be
abbrev pub invariant-loop-index : goal.invariant-loop-index
invariant-loop-index l = (k : ℕ) → k < l.index → IsPhasedAt l.links l.phase_links k
