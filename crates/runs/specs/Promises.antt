-- What every run keeps.
use Rattle.std.specs.Prelude.{◌≡◌, ℕ, ◌<◌, List, [], All, length, slice_index_or}
use Rattle.control_flow.specs.Greens.{IsLawful}
use Rattle.control_flow.specs.Signs.{sign_at}
use Rattle.control_flow.specs.declared.greens.Green.{Green}
use Rattle.intersection_actor.specs.Commits.{Commitment}
use Rattle.net_parts.specs.Numbers.{Net}
use Rattle.net_parts.specs.Outline.{plan_at}
use Rattle.net_simulator.specs.Sums.{end_of_run}
use Rattle.schedule_meaning.specs.Best.{IsLeast}
use Rattle.signal_safety.specs.Safe.{IsSafe}
use Rattle.runs.specs.Plans.{IsPlannedFrom, NamesVersions, NeverOlder}
use Rattle.waits.specs.Bounds.{planned_bounds}
use Rattle.waits.specs.Discharges.{AreWaitsWithin}
use Rattle.runs.specs.Runs.{IsRun, cumulative_by, shown_by}
use Rattle.runs.specs.declared.records.RunRecord.{RunRecord}

-- the last line of a node
abbrev pub last_line : RunRecord → ℕ → List Green
last_line run node = slice_index_or run.timelines node []

-- What the record of a run keeps, by the names of the fields; `arriving second link` is what enters a link from outside in a second,
-- in thousandths of a vehicle, and `made round node` is the commit of a node in a round.
-- `named`: every plan names the versions of its neighbours' forecasts that it used;
-- `newer`: none of them is older than one that an earlier plan of its node used;
-- `planned`: the instance of every plan is made from just those versions and from what its node sensed;
-- `least`: no sequence of that instance has less delay than the plan, and there is no plan only where no sequence is feasible;
-- `lawful`, `safe`: the timelines of the nodes after the last round are lawful, and no two links in conflict are ever green
-- together;
-- `signs`: in each second of the run these timelines show the same signs as those by which the vehicles moved;
-- `waits`: each queue of a link without a walk, of a phase that has a bound, loses something within it.
pub record KeepsPromises (net : Net) (arriving : ℕ → ℕ → ℕ) (history : List ℕ) (made : ℕ → ℕ → Commitment)
    (run : RunRecord) : Type 0 where
  pub named : All (NamesVersions net history) run.plans
  pub newer : NeverOlder run.plans
  pub planned : All (IsPlannedFrom net arriving made) run.plans
  pub least : All (λ plan. IsLeast plan.instance plan.answer) run.plans
  pub lawful : (node : ℕ) → node < length net.node_names → IsLawful (plan_at net node) (last_line run node)
  pub safe : IsSafe net (last_line run)
  pub signs : (second node : ℕ) → second < end_of_run net → node < length net.node_names
      → sign_at (last_line run node) second ≡ shown_by net made second node
  pub waits : AreWaitsWithin net (planned_bounds net) (cumulative_by net arriving made (end_of_run net))
      (end_of_run net)

-- the run of a history, with all that it keeps
pub record IsKeptRun (net : Net) (arriving : ℕ → ℕ → ℕ) (history : List ℕ) (record_of_run : RunRecord) : Type 0 where
  pub run : IsRun net arriving history record_of_run
  pub kept : KeepsPromises net arriving history run.made record_of_run
