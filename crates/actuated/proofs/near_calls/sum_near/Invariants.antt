use Rattle.std.proofs.Common.{◌≡◌, slice_index, sum_by, take}
use Rattle.actuated.proofs.near_calls.sum_near.Given as goal

-- what is near on the links so far
abbrev pub invariant-loop-link : goal.invariant-loop-link
invariant-loop-link l = l.all ≡ sum_by (slice_index l.near) (take l.link-index l.links)
