use Rattle.std.proofs.Common.{ℕ, ◌<◌}
use Rattle.road_net.specs.Joins.{HasSharesAt}
use Rattle.road_net.proofs.joins.check_shares.Given as goal

-- the links so far have turns as they must
abbrev pub invariant-loop-index : goal.invariant-loop-index
invariant-loop-index l = (k : ℕ) → k < l.index → HasSharesAt l.links l.turns k
