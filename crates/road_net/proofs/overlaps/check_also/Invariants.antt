use Rattle.std.proofs.Common.{ℕ, ◌<◌}
use Rattle.net_parts.specs.Parts.{net_of}
use Rattle.road_net.specs.Joins.{IsAlso}
use Rattle.road_net.proofs.overlaps.check_also.Given as goal

-- the links so far pass
abbrev pub invariant-loop-l : goal.invariant-loop-l
invariant-loop-l s = (k : ℕ) → k < s.l → IsAlso (net_of s.parts) k
