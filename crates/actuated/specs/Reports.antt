-- The report of a run under actuated control.
use Rattle.std.specs.Prelude.{ℕ, List}
use Rattle.net_parts.specs.Numbers.{Net}
use Rattle.audit.specs.LineReports.{line_text}
use Rattle.audit.specs.LineRuns.{sheet_of}
use Rattle.audit.specs.declared.line_runs.LineRun.{LineRun}

-- its text, that of its last lines and totals
abbrev pub act_text : Net → LineRun → List ℕ
act_text net run = line_text net (sheet_of run)
