-- A run that is kept is whole, and what is left of one is left of a run that is kept.
use Rattle.std.proofs.Common.{ℕ, List, Result, Ok, Err, IfOk}
use Rattle.net_core.specs.TurnRuns.{AreOfTurns}
use Rattle.net_parts.specs.Numbers.{Net}
use Rattle.runs.specs.Complete.{IsComplete}
use Rattle.runs.specs.Promises.{IsKeptRun}
use Rattle.runs.specs.Runs.{IsRun}
use Rattle.runs.specs.declared.plan_tallies.PlanTally.{PlanTally}
use Rattle.runs.specs.declared.records.RunRecord.{RunRecord}
use Rattle.runs.specs.declared.records.RunTotals.{RunTotals}
use Rattle.bounded_runs.specs.Runs.{AreTurnTotals}

-- every run that is kept is whole
pub all_whole : {E : Type 0} (net : Net) (arriving : ℕ → ℕ → ℕ) (history : List ℕ) (result : Result RunRecord E) → ((run : RunRecord) → IsRun net arriving history run → IsComplete net run)
    → IfOk result (IsKeptRun net arriving history) → IfOk result (IsComplete net)
all_whole net arriving history (Ok run) whole kept = whole run kept.run
all_whole net arriving history (Err e) whole kept = tt

-- what is left of a run of the turn order is left of one that is kept
pub all_turned : {E : Type 0} (net : Net) (arriving : ℕ → ℕ → ℕ) (result : Result (RunTotals × PlanTally) E) → IfOk result (λ made. AreOfTurns net arriving made.0 made.1) → IfOk result (λ made. AreTurnTotals net arriving made.0 made.1)
all_turned net arriving (Ok made) of = record {
  run = of.run;
  runs = record { lawful = of.lawful; kept = of.kept };
  are = of.totals;
  counted = of.counted;
  bounds = of.bounds;
}
all_turned net arriving (Err e) of = tt
