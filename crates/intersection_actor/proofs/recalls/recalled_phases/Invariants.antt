use Rattle.std.proofs.Common.{◌≡◌, map}
use Rattle.std.specs.List.{range_with_len}
use Rattle.control_flow.specs.Recalls.{without_mark}
use Rattle.net_parts.specs.Outline.{plan_at}
use Rattle.intersection_actor.specs.Commits.{is_recalled}
use Rattle.intersection_actor.proofs.recalls.recalled_phases.Given as goal

-- the phases so far
abbrev pub invariant-loop-k : goal.invariant-loop-k
invariant-loop-k l = l.phases.items ≡ map (without_mark (plan_at l.net l.node) (is_recalled l.net l.node l.sensed l.recall)) (range_with_len 0 l.k)
