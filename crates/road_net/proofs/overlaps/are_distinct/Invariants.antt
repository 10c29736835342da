use Rattle.std.proofs.Common.{ℕ, ◌<◌, ◌≢◌, length, get_or}
use Rattle.road_net.proofs.overlaps.are_distinct.Given as goal

-- the links so far differ from all later ones
abbrev pub invariant-loop-index : goal.invariant-loop-index
invariant-loop-index l = (i j d : ℕ) → i < l.index → i < j → j < length l.links → get_or l.links i d ≢ get_or l.links j d
