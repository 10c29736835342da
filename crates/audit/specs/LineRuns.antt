-- What given lines show, and what the world counts under them.
use Rattle.std.specs.Prelude.{ℕ, List, length, map}
use Rattle.std.specs.List.{range_with_len}
use Rattle.control_flow.specs.declared.greens.Green.{Green}
use Rattle.net_parts.specs.Numbers.{Net}
use Rattle.net_simulator.specs.Shown.{all_shown, link_shown}
use Rattle.audit.specs.declared.sheet.Sheet.{Sheet}
use Rattle.audit.specs.declared.line_runs.LineRun.{LineRun}

-- what a run says of greens and totals
abbrev pub sheet_of : LineRun → Sheet
sheet_of run = record { lines = run.timelines; links = run.links; totals = run.totals }

-- these lines, with what the world counts of each link and in all up to the end of the run, where they are shown
abbrev pub shown_sheet : Net → (ℕ → ℕ → ℕ) → List (List Green) → Sheet
shown_sheet net arriving lines = record {
  lines = lines;
  links = map (link_shown net arriving lines) (range_with_len 0 (length net.link_names));
  totals = all_shown net arriving lines;
}
