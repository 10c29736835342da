use Rattle.std.proofs.Common.{◌≡◌, ◌+◌}
use Rattle.switch_rules.specs.Orders.{choose}
use Rattle.switch_rules.proofs.choices.Given as goal

-- so far i of i and the greater number are chosen
abbrev pub invariant-loop-i : goal.invariant-loop-i
invariant-loop-i l = l.value ≡ choose (l.i + l.more) l.i
