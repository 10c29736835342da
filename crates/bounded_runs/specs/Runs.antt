-- The runs that commands make: of a history, and what is counted of that of the turn order.
use Rattle.std.specs.Prelude.{ℕ, List}
use Rattle.histories.specs.Histories.{IsLawful, turn_order}
use Rattle.net_parts.specs.Numbers.{Net}
use Rattle.runs.specs.Promises.{IsKeptRun}
use Rattle.runs.specs.Tallies.{AreTotalsOf, IsTally, IsTallyOf}
use Rattle.runs.specs.declared.plan_tallies.PlanTally.{PlanTally}
use Rattle.runs.specs.declared.records.RunRecord.{RunRecord}
use Rattle.runs.specs.declared.records.RunTotals.{RunTotals}

-- The record is that of the run of a lawful history, where `arriving second link` is what enters a link from outside in a second, in
-- thousandths of a vehicle. In whatever order the nodes do their board steps in a round, it keeps this: each plan names the
-- versions of its neighbours' forecasts that it used, none older than one that an earlier plan of its node used; its instance has
-- exactly the clusters of the node's window, made from just those versions and from what the node sensed; no sequence of that
-- instance has less weighted delay, and there is no plan only where no sequence is feasible; links in conflict are never green
-- together; and every green keeps its bounds.
pub record IsRunOf (net : Net) (arriving : ℕ → ℕ → ℕ) (history : List ℕ) (run : RunRecord) : Type 0 where
  pub lawful : IsLawful net history
  pub kept : IsKeptRun net arriving history run

-- There is a run of the turn order, with all that it keeps: this is left of it, and this is counted of its plans, which are not kept.
pub record AreTurnTotals (net : Net) (arriving : ℕ → ℕ → ℕ) (left : RunTotals) (tally : PlanTally) : Type 0 where
  pub run : RunRecord
  pub runs : IsRunOf net arriving (turn_order net) run
  pub are : AreTotalsOf run left
  pub counted : IsTallyOf run.plans tally
  pub bounds : IsTally tally
