use Rattle.std.proofs.Common.{◌≡◌, ◌≤◌, take}
use Rattle.net_core.specs.States.{busy_count}
use Rattle.net_core.proofs.keeping.busy_count.Given as goal

abbrev pub invariant-loop-actor : goal.invariant-loop-actor
invariant-loop-actor l = record {
  count : l.busy ≡ busy_count (take l.actor-index l.actors);
  few : l.busy ≤ l.actor-index;
}
