use Rattle.std.proofs.Common.{◌≡◌, sum_by, take}
use Rattle.actuated.specs.Calls.{amount_near}
use Rattle.actuated.proofs.calls.all_near_amounts.Given as goal

-- what is near on the links so far
abbrev pub invariant-loop-link : goal.invariant-loop-link
invariant-loop-link l = l.all ≡ sum_by (amount_near l.sensed l.gap) (take l.link-index l.links)
