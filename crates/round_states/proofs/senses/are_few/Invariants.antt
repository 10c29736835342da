use Rattle.std.proofs.Common.{◌≡◌, ◌+◌, sum_by, take}
use Rattle.road_net.specs.Senses.{amount}
use Rattle.round_states.proofs.senses.are_few.Given as goal

-- what is left, and what is sensed of the links so far
abbrev pub invariant-loop-sense : goal.invariant-loop-sense
invariant-loop-sense l = l.left + sum_by amount (take l.sense-index l.links) ≡ 2000000000
