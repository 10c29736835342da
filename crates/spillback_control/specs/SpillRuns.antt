-- A run of actuated control in a world in which a full link holds back those who want to enter it: the nodes sense that world.
use Rattle.std.specs.Prelude.{◌≡◌, ℕ, ◌<◌, List, length, map}
use Rattle.std.specs.List.{range_with_len}
use Rattle.actuated.specs.ActRuns.{AllAct, first_line, shown_in}
use Rattle.actuated.specs.ActSteps.{act_rounds}
use Rattle.control_flow.specs.Signs.{sign_at}
use Rattle.control_flow.specs.declared.greens.Green.{Green}
use Rattle.net_parts.specs.Numbers.{Net}
use Rattle.net_simulator.specs.Sums.{end_of_run}
use Rattle.net_simulator.specs.Worlds.{line_in, signs_by}
use Rattle.signal_safety.specs.Rounds.{line_before}
use Rattle.spillback_world.specs.StoredTotals.{stored_totals}
use Rattle.spillback_world.specs.Storage.{cumulative_in}
use Rattle.spillback_world.specs.declared.totals.SpillTotals.{SpillTotals}
use Rattle.spillback_control.specs.declared.records.SpillRun.{SpillRun}

-- Below, `made round node` is the line of a node in a round. What is counted in the run, where `arriving second link` comes from
-- outside and `store link` is how much a link can hold: in each round each node makes its next line by what it senses of the world
-- with that store, which moves by the lines that were made.
pub record IsActuatedIn (net : Net) (arriving : ℕ → ℕ → ℕ) (store : ℕ → ℕ) (totals : SpillTotals) : Type 0 where
  pub made : ℕ → ℕ → List Green
  pub acts : AllAct net (cumulative_in net arriving store) made (act_rounds net)
  pub are : totals
      ≡ stored_totals net arriving (cumulative_in net arriving store (shown_in net made) (end_of_run net))
      (end_of_run net)

-- the line of each node after the last round
abbrev pub last_lines : Net → (ℕ → ℕ → List Green) → List (List Green)
last_lines net made =
    map (line_before (first_line net) made (act_rounds net)) (range_with_len 0 (length net.node_names))

-- in each second of the run the last lines show the signs by which the world moved
abbrev pub LastLinesShow : Net → (ℕ → ℕ → List Green) → Type 0
LastLinesShow net made =
    (second node : ℕ) → second < end_of_run net → node < length net.node_names
    → sign_at (line_in (last_lines net made) node) second ≡ shown_in net made second node

-- The record of a run: what is counted in it, and its last lines.
pub record IsSpillRun (net : Net) (arriving : ℕ → ℕ → ℕ) (store : ℕ → ℕ) (run : SpillRun) : Type 0 where
  pub actuated : IsActuatedIn net arriving store run.totals
  pub lines : run.timelines ≡ last_lines net actuated.made

-- what a spill run counts in all is what the world with the store counts under its last lines
abbrev pub CountsLastLines : Net → (ℕ → ℕ → ℕ) → (ℕ → ℕ) → SpillRun → Type 0
CountsLastLines net arriving store run =
    run.totals ≡ stored_totals net arriving
    (cumulative_in net arriving store (signs_by (line_in run.timelines)) (end_of_run net)) (end_of_run net)
