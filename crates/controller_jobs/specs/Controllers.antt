-- What the commands write that run a network under other controllers than the planners, or under several.
use Rattle.std.specs.Prelude.{◌≡◌, ℕ, ◌+◌, ◌-◌, ◌*◌, ◌/◌, ◌<◌, List, ◌∷◌, ◌++◌, Contains, codes, length, map}
use Rattle.std.specs.Fmt.{decimal}
use Rattle.std.specs.List.{AllZip, concat, range_with_len}
use Rattle.text_lines.specs.Lines.{line}
use Rattle.actuated.specs.ActRuns.{IsActRun, KeepsWaits, ShowsSigns}
use Rattle.actuated.specs.Reports.{act_text}
use Rattle.audit.specs.declared.line_runs.LineRun.{LineRun}
use Rattle.net_parts.specs.Limits.{most_of_all}
use Rattle.audit.specs.Audits.{AreLawful, IsClean, IsCleanText}
use Rattle.net_simulator.specs.Shown.{all_shown, cumulative_of_lines}
use Rattle.net_simulator.specs.Sums.{end_of_run}
use Rattle.control_flow.specs.declared.greens.Green.{Green}
use Rattle.fixed_plans.specs.FixedBounds.{fixed_bounds}
use Rattle.fixed_plans.specs.Lines.{fixed_line}
use Rattle.fixed_plans.specs.declared.rows.FixedRow.{FixedRow}
use Rattle.histories.specs.Histories.{turn_order}
use Rattle.audit.specs.LineReports.{line_text}
use Rattle.net_parts.specs.Numbers.{Net}
use Rattle.net_simulator.specs.Worlds.{line_in}
use Rattle.net_simulator.specs.declared.totals.Totals.{Totals}
use Rattle.runs.specs.declared.records.RunRecord.{RunRecord}
use Rattle.arrivals.specs.Scaling.{IsScaled, scaled_whole}
use Rattle.audit.specs.SheetTexts.{HasShape}
use Rattle.audit.specs.declared.sheet.Sheet.{Sheet}
use Rattle.signal_safety.specs.Safe.{IsSafe}
use Rattle.waits.specs.Discharges.{AreWaitsWithin}
use Rattle.bounded_runs.specs.Runs.{IsRunOf}
use Rattle.bounded_runs.specs.Totals.{totals_line, totals_words}

-- The run of a network under actuated control, where this enters each link in each second: all last timelines are lawful, the network is
-- safe under them, and in each second of the run they show the signs by which the world moved; and each queue of a phase that has a
-- bound, of a link without a walk, loses something within it.
pub record IsActuatedRun (net : Net) (arriving : ℕ → ℕ → ℕ) (record_of_run : LineRun) : Type 0 where
  pub run : IsActRun net arriving record_of_run
  pub lawful : AreLawful net record_of_run.timelines
  pub safe : IsSafe net (line_in record_of_run.timelines)
  pub signs : ShowsSigns net run.made record_of_run
  pub waits : KeepsWaits net arriving run.made

-- the bytes are the report of such a run, and an audit finds nothing in them
pub record IsActuatedReport (net : Net) (arriving : ℕ → ℕ → ℕ) (bytes : List ℕ) : Type 0 where
  pub run : LineRun
  pub runs : IsActuatedRun net arriving run
  pub report : bytes ≡ act_text net run
  pub clean : IsCleanText net arriving bytes

-- these are the totals of the run of the turn order
pub record ArePlannedTotals (net : Net) (arriving : ℕ → ℕ → ℕ) (totals : Totals) : Type 0 where
  pub run : RunRecord
  pub runs : IsRunOf net arriving (turn_order net) run
  pub are : totals ≡ run.totals

-- these are the totals of the run under actuated control
pub record AreActuatedTotals (net : Net) (arriving : ℕ → ℕ → ℕ) (totals : Totals) : Type 0 where
  pub run : LineRun
  pub runs : IsActuatedRun net arriving run
  pub are : totals ≡ run.totals

-- the bytes are two lines: what the run of the turn order has counted in all, and what that under actuated control has
pub record IsComparison (net : Net) (arriving : ℕ → ℕ → ℕ) (bytes : List ℕ) : Type 0 where
  pub of_plans : Totals
  pub are_of_plans : ArePlannedTotals net arriving of_plans
  pub of_calls : Totals
  pub are_of_calls : AreActuatedTotals net arriving of_calls
  pub lines : bytes ≡ totals_line (codes "planned") of_plans ++ totals_line (codes "actuated") of_calls

-- ---- fixed plans

-- the timelines of a fixed plan, by node
abbrev pub fixed_timelines : Net → List FixedRow → List (List Green)
fixed_timelines net rows = map (fixed_line net rows) (range_with_len 0 (length net.node_names))

-- The bytes are the report of the timelines of a fixed plan and of what the world shows under them: they are lawful, the network is
-- safe under them, each queue of a phase that has a bound under the plan, of a link without a walk, loses something within it, and an
-- audit finds nothing in the report.
pub record IsFixedReport (net : Net) (arriving : ℕ → ℕ → ℕ) (rows : List FixedRow) (bytes : List ℕ) : Type 0 where
  pub sheet : Sheet
  pub lines : sheet.lines ≡ fixed_timelines net rows
  pub shape : HasShape net sheet
  pub shows : IsClean net arriving sheet
  pub safe : IsSafe net (line_in sheet.lines)
  pub waits : AreWaitsWithin net (fixed_bounds net rows) (cumulative_of_lines net arriving sheet.lines) (end_of_run net)
  pub report : bytes ≡ line_text net sheet
  pub clean : IsCleanText net arriving bytes

-- the bytes are the lines of both runs, and a third: what the world has counted in all under the fixed plan
pub record IsComparisonWith (net : Net) (arriving : ℕ → ℕ → ℕ) (rows : List FixedRow) (bytes : List ℕ) : Type 0 where
  pub both : List ℕ
  pub are_both : IsComparison net arriving both
  pub lines : bytes ≡ both ++ totals_line (codes "fixed") (all_shown net arriving (fixed_timelines net rows))

-- ---- scaled arrivals

-- the factors from the first on, a step apart, up to the last
abbrev pub factors : ℕ → ℕ → ℕ → List ℕ
factors first last step = map (λ k. first + k * step) (range_with_len 0 ((last - first) / step + 1))

-- a line of a factor and of what was counted in all in two runs
abbrev pub scale_line : ℕ → Totals → Totals → List ℕ
scale_line factor of_plans of_calls =
    line (decimal factor ∷ codes "planned" ∷ totals_words of_plans ++ codes "actuated" ∷ totals_words of_calls)

-- the line of a factor: what both runs have counted in all where the arrivals are scaled by it
pub record IsScaleLine (net : Net) (arriving : ℕ → ℕ → ℕ) (factor : ℕ) (bytes : List ℕ) : Type 0 where
  pub scaled : ℕ → ℕ → ℕ
  pub is_scaled : IsScaled factor arriving scaled
  pub of_plans : Totals
  pub are_of_plans : ArePlannedTotals net scaled of_plans
  pub of_calls : Totals
  pub are_of_calls : AreActuatedTotals net scaled of_calls
  pub line : bytes ≡ scale_line factor of_plans of_calls

-- the bytes are the lines of the factors, one after another
pub record IsScaleTable (net : Net) (arriving : ℕ → ℕ → ℕ) (first last step : ℕ) (bytes : List ℕ) : Type 0 where
  pub lines : List (List ℕ)
  pub each : AllZip (IsScaleLine net arriving) (factors first last step) lines
  pub are : bytes ≡ concat lines

-- scaled by one of the factors, the arrivals bring more than arrivals may
abbrev pub BringTooMuch : Net → (ℕ → ℕ → ℕ) → List ℕ → Type 0
BringTooMuch net arriving all = (factor : ℕ) × Contains all factor × (most_of_all < scaled_whole net factor arriving)
