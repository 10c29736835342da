-- The report of lines and totals, whatever made them: its records, its text, and the sheet that it tells.
use Rattle.std.specs.Prelude.{ℕ, List, ◌∷◌, length, map}
use Rattle.std.specs.List.{range_with_len}
use Rattle.net_parts.specs.Numbers.{Net}
use Rattle.net_simulator.specs.Sums.{end_of_run}
use Rattle.audit.specs.declared.sheet.Sheet.{Sheet}
use Rattle.world_records.specs.Records.{header, records_text, shown_records}
use Rattle.world_records.specs.Told.{told_line}

-- the records of a report: the header; the greens that are told up to the end of the run, by node and time; the links; all totals
abbrev pub line_records : Net → Sheet → List (List (List ℕ))
line_records net s = header ∷ shown_records net s.lines s.links s.totals (end_of_run net)

-- its text
abbrev pub line_text : Net → Sheet → List ℕ
line_text net s = records_text (line_records net s)

-- the sheet with the greens alone that a report tells of each line up to a second
abbrev pub cut_at : Net → ℕ → Sheet → Sheet
cut_at net end s = record {
  lines = map (told_line net s.lines end) (range_with_len 0 (length net.node_names));
  links = s.links;
  totals = s.totals;
}
