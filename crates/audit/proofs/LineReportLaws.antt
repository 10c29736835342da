-- The parts of a report, one after another.
use Rattle.std.proofs.Common.{ℕ, ◌<◌, [], ◌∷◌, length, All, Vec, subst, sym}
use Rattle.std.proofs.lemmas.List.Elements.{All-nil}
use Rattle.std.proofs.lemmas.List.FromFn.{length-map-range_with_len}
use Rattle.csv.specs.declared.writer.Writer.{Writer}
use Rattle.net_simulator.specs.Counts.{counts_at}
use Rattle.net_simulator.specs.Sums.{AreFew, end_of_run}
use Rattle.net_parts.specs.Numbers.{Net}
use Rattle.road_net.specs.Network.{IsNetwork}
use Rattle.audit.specs.declared.sheet.Sheet.{Sheet}
use Rattle.audit.specs.SheetTexts.{HasShape, IsSheetText}
use Rattle.audit.specs.WrittenSheets.{AreToldSums, IsPassedOver}
use Rattle.world_records.specs.Records.{header, shown_records}
use Rattle.world_records.specs.Told.{AreToldCounts, IsToldGreen, told_line}
use Rattle.world_records.specs.Written.{Adds, HasWritten}
use Rattle.world_records.proofs.WrittenLaws.{adds-then}
use Rattle.audit.specs.Audits.{IsClean, IsCleanText}
use Rattle.audit.proofs.CleanTexts.{clean-text}
use Rattle.audit.proofs.CutLaws.{cut-line}
use Rattle.audit.proofs.WrittenSheetLaws.{written-sheet}
use Rattle.audit.specs.LineReports.{cut_at, line_text}

-- with the header before it
pub report-parts : {Z : Type 0} (net : Net) (s : Sheet) (o0 o1 o2 : Writer (Vec ℕ Z)) → HasWritten o0 [] → Adds o0 o1 (header ∷ [])
    → Adds o1 o2 (shown_records net s.lines s.links s.totals (end_of_run net)) → HasWritten o2 (line_text net s)
report-parts net s o0 o1 o2 begun first shown = (adds-then o0 o1 o2 _ _ first shown).adds [] begun

-- the report of what is clean is read as a clean sheet
pub report-clean : (net : Net) → IsNetwork net → (arriving : ℕ → ℕ → ℕ) → AreFew net arriving → (s : Sheet) → HasShape net s → IsClean net arriving s
    → ((node : ℕ) → node < length net.node_names → All IsToldGreen (told_line net s.lines (end_of_run net) node)) → IsCleanText net arriving (line_text net s)
report-clean net network arriving few s shape clean fits = clean-text net network arriving few s shape clean fits [] (All-nil IsPassedOver)

-- the report is the text of the sheet with the greens that it tells
pub report-sheet : (net : Net) → IsNetwork net → (s : Sheet) → HasShape net s
    → ((node : ℕ) → node < length net.node_names → All IsToldGreen (told_line net s.lines (end_of_run net) node))
    → ((link : ℕ) → link < length net.link_names → AreToldCounts (counts_at s.links link)) → AreToldSums s.totals
    → IsSheetText net (line_text net s) (cut_at net (end_of_run net) s)
report-sheet net network s shape greens counts totals = written-sheet net network [] (All-nil IsPassedOver) (end_of_run net) s (record {
  lines = length-map-range_with_len (told_line net s.lines (end_of_run net)) 0 (length net.node_names);
  links = shape.links;
  greens = λ node below. subst (All IsToldGreen) (sym (cut-line net (end_of_run net) s node below)) (greens node below);
  counts = counts;
  totals = totals;
})
