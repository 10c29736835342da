use Rattle.std.proofs.Common.{◌≡◌, ◌<◌, ℕ, length, slice_index}
use Rattle.net_simulator.specs.Senses.{near_on}
use Rattle.spillback_world.specs.Storage.{cumulative_in}
use Rattle.spillback_world.specs.Worlds.{Stands}
use Rattle.spillback_control.proofs.sensing.sense_near.Given as goal
use Rattle.control_flow.specs.declared.greens.Sign.{Sign}

-- what is near on the links so far
abbrev pub invariant-loop-link : goal.invariant-loop-link
invariant-loop-link l = record {
  count : length l.near ≡ length l.initial.near;
  are : (arriving : ℕ → ℕ → ℕ) (store : ℕ → ℕ) (shown : ℕ → ℕ → Sign) → Stands l.net arriving store shown l.world → (k : ℕ) → k < l.link
      → slice_index l.near k ≡ near_on l.net (cumulative_in l.net arriving store shown l.world.second) l.world.second l.net.run.gap k;
}
