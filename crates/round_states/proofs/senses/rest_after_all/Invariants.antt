use Rattle.std.proofs.Common.{◌≡◌, ◌+◌, sum, take}
use Rattle.round_states.proofs.senses.rest_after_all.Given as goal

-- what is left, and the sum so far
abbrev pub invariant-loop-amount : goal.invariant-loop-amount
invariant-loop-amount l = l.rest + sum (take l.amount-index l.amounts) ≡ l.left
