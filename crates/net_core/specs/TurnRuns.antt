-- The run of the turn order, of which the plans are not kept.
use Rattle.std.specs.Prelude.{ℕ}
use Rattle.histories.specs.Histories.{turn_order, IsLawful}
use Rattle.net_parts.specs.Numbers.{Net}
use Rattle.runs.specs.Promises.{IsKeptRun}
use Rattle.runs.specs.Tallies.{AreTotalsOf, IsTally, IsTallyOf}
use Rattle.runs.specs.declared.plan_tallies.PlanTally.{PlanTally}
use Rattle.runs.specs.declared.records.RunRecord.{RunRecord}
use Rattle.runs.specs.declared.records.RunTotals.{RunTotals}

-- There is a record of the run of the turn order, with all that it keeps: this is left of it, and this is counted of its plans.
-- `arriving second link` is what enters a link from outside in a second, in thousandths of a vehicle.
pub record AreOfTurns (net : Net) (arriving : ℕ → ℕ → ℕ) (left : RunTotals) (tally : PlanTally) : Type 0 where
  pub run : RunRecord
  pub lawful : IsLawful net (turn_order net)
  pub kept : IsKeptRun net arriving (turn_order net) run
  pub totals : AreTotalsOf run left
  pub counted : IsTallyOf run.plans tally
  pub bounds : IsTally tally
