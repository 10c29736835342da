use Rattle.std.proofs.Common.{◌≡◌, ◌<◌, ℕ, [], length, get_or}
use Rattle.phase_plan.specs.Phases.{AreSwitchTimesFrom}
use Rattle.phase_plan.proofs.switch_times.Given as goal

-- the rows of the phases so far
abbrev pub invariant-loop-s : goal.invariant-loop-s
invariant-loop-s l = record {
  room : length l.rows ≡ 4;
  each : (s : ℕ) → s < l.s → AreSwitchTimesFrom l.phases s (get_or l.rows s []);
}
