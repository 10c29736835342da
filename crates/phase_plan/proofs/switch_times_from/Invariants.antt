use Rattle.std.proofs.Common.{◌≡◌, ◌<◌, ◌≤◌, ℕ, length, get_or}
use Rattle.phase_plan.specs.Phases.{greatest_switch_time, switch_time}
use Rattle.phase_plan.proofs.switch_times_from.Given as goal

-- the row has the times to the phases so far
abbrev pub invariant-loop-j : goal.invariant-loop-j
invariant-loop-j l = record {
  room : length l.row ≡ 4;
  times : (j : ℕ) → j < l.j → get_or l.row j 0 ≡ switch_time l.phases l.s j;
  bounds : (j : ℕ) → j < l.j → get_or l.row j 0 ≤ greatest_switch_time;
}
