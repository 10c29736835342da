use Rattle.std.proofs.Common.{◌≡◌, map, take}
use Rattle.net_parts.specs.Numbers.{plan_of}
use Rattle.net_build.proofs.numbering.plans.Given as goal

-- the plans of the nodes so far
abbrev pub invariant-loop-node : goal.invariant-loop-node
invariant-loop-node l = l.plans.items ≡ map plan_of (take l.node-index l.nodes)
