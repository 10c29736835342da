-- The summary of a run.
use Rattle.std.specs.Prelude.{ℕ, List, [], ◌∷◌, ◌++◌, codes, length}
use Rattle.net_simulator.specs.declared.totals.Totals.{Totals}
use Rattle.runs.specs.Tallies.{none_count, planned_delays}
use Rattle.runs.specs.declared.plan_tallies.PlanTally.{PlanTally}
use Rattle.runs.specs.declared.records.RunRecord.{RunRecord}
use Rattle.bounded_runs.specs.Totals.{number_line, totals_line}

-- The five lines: what was asked for, how many plans there are, how many of them are none, the delays that the others plan, and what
-- was counted in all.
abbrev pub summary_lines : ℕ → ℕ → ℕ → PlanTally → Totals → List ℕ
summary_lines number side rounds tally totals =
    number_line (codes "grid") (number ∷ side ∷ rounds ∷ [])
    ++ number_line (codes "plans") (tally.plans ∷ [])
    ++ number_line (codes "none") (tally.none ∷ [])
    ++ number_line (codes "delay") (tally.delay ∷ [])
    ++ totals_line (codes "total") totals

-- the five lines of the summary of a run
abbrev pub summary_text : ℕ → ℕ → ℕ → RunRecord → List ℕ
summary_text number side rounds run =
    summary_lines number side rounds
    (record { plans = length run.plans; none = none_count run.plans; delay = planned_delays run.plans }) run.totals
