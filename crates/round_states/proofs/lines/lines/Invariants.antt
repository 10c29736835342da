use Rattle.std.proofs.Common.{◌≡◌, ℕ, ◌<◌, map}
use Rattle.std.specs.List.{range_with_len}
use Rattle.round_states.specs.Texts.{GoesOn, all_said, green_said}
use Rattle.round_states.proofs.lines.lines.Given as goal

-- the timelines of the nodes so far
abbrev pub invariant-loop-node : goal.invariant-loop-node
invariant-loop-node l = record {
  lines : l.lines.items ≡ map (all_said green_said l.entries) (range_with_len 0 l.node);
  on : (k : ℕ) → k < l.node → GoesOn l.net l.asked l.entries k;
}
