use Rattle.std.proofs.Common.{◌≡◌, ◌<◌, ℕ, List, length, slice_index}
use Rattle.control_flow.specs.declared.greens.Green.{Green}
use Rattle.net_simulator.specs.Flow.{cumulative_under}
use Rattle.net_simulator.specs.Senses.{near_on}
use Rattle.net_simulator.specs.Worlds.{Stands, signs_by}
use Rattle.actuated.proofs.sensing.sense_near.Given as goal

-- what is near on the links so far
abbrev pub invariant-loop-link : goal.invariant-loop-link
invariant-loop-link l = record {
  count : length l.near ≡ length l.initial.near;
  are : (arriving : ℕ → ℕ → ℕ) (lines : ℕ → List Green) → Stands l.net arriving (signs_by lines) l.world → (k : ℕ) → k < l.link
      → slice_index l.near k ≡ near_on l.net (cumulative_under l.net arriving (signs_by lines) l.world.second) l.world.second l.net.run.gap k;
}
