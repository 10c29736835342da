use Rattle.std.proofs.Common.{◌≡◌, sum, take}
use Rattle.actuated.proofs.calls.sum_of.Given as goal

-- the sum so far
abbrev pub invariant-loop-amount : goal.invariant-loop-amount
invariant-loop-amount l = l.all ≡ sum (take l.amount-index l.amounts)
