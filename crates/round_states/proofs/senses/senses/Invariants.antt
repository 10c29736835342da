use Rattle.std.proofs.Common.{◌≡◌, ℕ, ◌<◌, map}
use Rattle.std.specs.List.{range_with_len}
use Rattle.round_states.specs.Faults.{SensesFew}
use Rattle.round_states.specs.Texts.{sensed_in}
use Rattle.round_states.proofs.senses.senses.Given as goal

-- what the nodes so far sense
abbrev pub invariant-loop-node : goal.invariant-loop-node
invariant-loop-node l = record {
  sensed : l.all.items ≡ map (sensed_in l.net l.entries) (range_with_len 0 l.node);
  few : (k : ℕ) → k < l.node → SensesFew l.net l.entries k;
}
