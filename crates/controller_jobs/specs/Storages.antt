-- What `spill` writes: what two controllers come to where links hold so much and no more, or the report of the run of one of them.
use Rattle.std.specs.Prelude.{◌≡◌, ℕ, List, [], ◌∷◌, ◌++◌, codes, slice_index}
use Rattle.audit.specs.Audits.{AreLawful}
use Rattle.audit.specs.LineReports.{cut_at, line_text}
use Rattle.audit.specs.SheetTexts.{IsSheetText}
use Rattle.audit.specs.declared.sheet.Sheet.{Sheet}
use Rattle.histories.specs.Histories.{turn_order}
use Rattle.net_parts.specs.Numbers.{Net}
use Rattle.net_simulator.specs.Sums.{end_of_run}
use Rattle.net_simulator.specs.Worlds.{line_in, signs_by}
use Rattle.net_simulator.specs.declared.totals.Totals.{Totals}
use Rattle.runs.specs.declared.records.RunRecord.{RunRecord}
use Rattle.signal_safety.specs.Safe.{IsSafe}
use Rattle.spillback_control.specs.SpillRuns.{CountsLastLines, IsActuatedIn, IsSpillRun, LastLinesShow, last_lines}
use Rattle.spillback_control.specs.declared.records.SpillRun.{SpillRun}
use Rattle.spillback_world.specs.StoredLinks.{stored_links}
use Rattle.spillback_world.specs.StoredTotals.{stored_totals}
use Rattle.spillback_world.specs.Storage.{cumulative_in}
use Rattle.spillback_world.specs.declared.totals.SpillTotals.{SpillTotals}
use Rattle.bounded_runs.specs.Runs.{IsRunOf}
use Rattle.bounded_runs.specs.Totals.{number_line}
use Rattle.control_flow.specs.declared.greens.Sign.{Sign}

-- what is counted until the run ends where the signals show this and each link holds what the store says and no more
abbrev pub spilled_under : Net → (ℕ → ℕ → ℕ) → List ℕ → (ℕ → ℕ → Sign) → SpillTotals
spilled_under net arriving store shown =
    stored_totals net arriving (cumulative_in net arriving (slice_index store) shown (end_of_run net)) (end_of_run net)

-- a line of a word and what was counted in all where links hold what a store says and no more, with what waits outside
abbrev pub spilled_line : List ℕ → SpillTotals → List ℕ
spilled_line word totals =
    number_line word (totals.entered ∷ totals.left ∷ totals.on ∷ totals.outside ∷ totals.delay ∷ [])

-- The bytes are two lines: what is counted under the last timelines of the run of the turn order, and under actuated control that
-- senses the links as they then are: its last timelines are lawful and safe, and show the signs by which that world moved.
pub record IsSpillTable (net : Net) (arriving : ℕ → ℕ → ℕ) (store : List ℕ) (bytes : List ℕ) : Type 0 where
  pub run : RunRecord
  pub runs : IsRunOf net arriving (turn_order net) run
  pub of_calls : SpillTotals
  pub are_of_calls : IsActuatedIn net arriving (slice_index store) of_calls
  pub lawful : AreLawful net (last_lines net are_of_calls.made)
  pub safe : IsSafe net (line_in (last_lines net are_of_calls.made))
  pub signs : LastLinesShow net are_of_calls.made
  pub lines : bytes
      ≡ spilled_line (codes "planned") (spilled_under net arriving store (signs_by (line_in run.timelines)))
      ++ spilled_line (codes "actuated") of_calls

-- ---- the report of the run under actuated control

-- what a report says in all: what entered, left, is on the links, and waited there and outside of them
abbrev pub told_totals : SpillTotals → Totals
told_totals t = record { entered = t.entered; left = t.left; on = t.on; delay = t.delay }

-- what the report of a spill run says of greens and totals: the last timelines of the run, and what the world with the store counts
-- under them
abbrev pub spill_sheet : Net → (ℕ → ℕ → ℕ) → List ℕ → SpillRun → Sheet
spill_sheet net arriving store run = record {
  lines = run.timelines;
  links = stored_links net arriving (slice_index store) (signs_by (line_in run.timelines)) (end_of_run net);
  totals = told_totals run.totals;
}

-- The bytes are the report of the run under actuated control in the world with the store: its last timelines are lawful and safe, and
-- show the signs by which that world moved; all totals are what is counted in that world. The bytes are the text of the sheet with the
-- greens that the report tells of these timelines, and with these totals.
pub record IsSpillReport (net : Net) (arriving : ℕ → ℕ → ℕ) (store : List ℕ) (bytes : List ℕ) : Type 0 where
  pub run : SpillRun
  pub runs : IsSpillRun net arriving (slice_index store) run
  pub lawful : AreLawful net run.timelines
  pub safe : IsSafe net (line_in run.timelines)
  pub signs : LastLinesShow net runs.actuated.made
  pub counts : CountsLastLines net arriving (slice_index store) run
  pub report : bytes ≡ line_text net (spill_sheet net arriving store run)
  pub sheet : IsSheetText net bytes (cut_at net (end_of_run net) (spill_sheet net arriving store run))
