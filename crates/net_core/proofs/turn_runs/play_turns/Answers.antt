use Rattle.std.proofs.Common.{[], arith}
use Rattle.net_core.proofs.turn_runs.play_turns.Goals as goal

pub loop-round-init : goal.loop-round-init
loop-round-init g c = record {
  turned = record { plans = []; between = c.requires.first.between; round = c.requires.first.round; counted = c.of_none-tally.ensures.none; bounds = c.of_none-tally.ensures.bounds };
  blank = record { none = c.in_ok-planned.ensures.items; capacity = omega (arith, c.in_ok-planned.ensures.capacity, c.nodes.ensures.value) };
}
