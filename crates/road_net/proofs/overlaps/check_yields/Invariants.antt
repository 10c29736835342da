use Rattle.std.proofs.Common.{ℕ, ◌<◌}
use Rattle.net_parts.specs.Parts.{net_of}
use Rattle.road_net.specs.Joins.{IsYield}
use Rattle.road_net.proofs.overlaps.check_yields.Given as goal

-- the links so far pass
abbrev pub invariant-loop-l : goal.invariant-loop-l
invariant-loop-l s = (k : ℕ) → k < s.l → IsYield (net_of s.parts) k
