-- The text of records that tell a clean sheet is a clean text.
use Rattle.std.proofs.Common.{ℕ, ◌*◌, ◌<◌, ◌≤◌, List, ◌∷◌, ◌++◌, length, All, sym, subst, arith}
use Rattle.std.proofs.lemmas.List.FromFn.{length-map-range_with_len}
use Rattle.net_parts.specs.Limits.{most_of_all, most_seconds}
use Rattle.net_parts.specs.Numbers.{Net}
use Rattle.road_net.specs.Network.{IsNetwork}
use Rattle.road_net.proofs.TotalLaws.{total-le}
use Rattle.control_flow.specs.declared.greens.Green.{Green}
use Rattle.net_simulator.specs.Flow.{Cumulative}
use Rattle.net_simulator.specs.Sums.{AreFew, delay, end_of_run, link_totals, totals}
use Rattle.net_simulator.specs.Worlds.{line_in, signs_by}
use Rattle.net_simulator.proofs.Conserving.{left-entered}
use Rattle.net_simulator.proofs.Passing.{delay-small, entered-small, gone-most, on-road-most, sound-at}
use Rattle.net_simulator.proofs.Sums.{total-of}
use Rattle.audit.specs.declared.sheet.Sheet.{Sheet}
use Rattle.audit.specs.SheetTexts.{HasShape, IsSheetText}
use Rattle.audit.specs.LineReports.{cut_at}
use Rattle.audit.specs.WrittenSheets.{AreToldSums, CanBeTold, IsPassedOver, sheet_records}
use Rattle.audit.proofs.SheetTextLaws.{one-sheet}
use Rattle.audit.proofs.WrittenSheetLaws.{written-sheet}
use Rattle.world_records.specs.Records.{header, records_text}
use Rattle.world_records.specs.Told.{AreToldCounts, IsToldGreen, told_line}
use Rattle.audit.specs.Audits.{IsClean, IsCleanText}
use Rattle.net_simulator.specs.Shown.{cumulative_of_lines}
use Rattle.audit.proofs.CutLaws.{cut-clean, cut-line}
use Rattle.control_flow.specs.declared.greens.Sign.{Sign}

-- what the world has counted at the end of the run can be told
module _ (net : Net) (network : IsNetwork net) (arriving : ℕ → ℕ → ℕ) (few : AreFew net arriving) (lines : List (List Green)) where
  abbrev shown : ℕ → ℕ → Sign
  shown = signs_by (line_in lines)

  abbrev end : ℕ
  end = end_of_run net

  early : end ≤ most_seconds
  early = network.outline.run.seconds

  parsed-counts : (l : ℕ) → l < length net.link_names → AreToldCounts (link_totals net (cumulative_of_lines net arriving lines) end l)
  parsed-counts l below =
      let entered = entered-small net network arriving shown few end l below in
      record {
        entered = omega (arith, entered, early);
        left = omega (arith, left-entered net (cumulative_of_lines net arriving lines) end (sound-at net network arriving shown end) l end below (omega arith), entered, early);
        delay = omega (arith, delay-small net network arriving shown few end l below, early);
      }

  parsed-sums : AreToldSums (totals net arriving (cumulative_of_lines net arriving lines) end)
  parsed-sums =
      let past : ℕ → ℕ → Cumulative = cumulative_of_lines net arriving lines in
      let each = total-le (delay net past end) (λ l. most_seconds * most_of_all) (length net.link_names) (λ l below. omega (arith, delay-small net network arriving shown few end l below, early)) in
      record {
        entered = omega (arith, few end);
        left = omega (arith, gone-most net network arriving shown few end);
        on = omega (arith, on-road-most net network arriving shown few end);
        delay = omega (arith, each, total-of (most_seconds * most_of_all) (length net.link_names), network.outline.link_count.1);
      }

module _ (net : Net) (network : IsNetwork net) (arriving : ℕ → ℕ → ℕ) (few : AreFew net arriving) (s : Sheet) (shape : HasShape net s) (clean : IsClean net arriving s)
    (fits : (node : ℕ) → node < length net.node_names → All IsToldGreen (told_line net s.lines (end_of_run net) node)) where
  -- a clean sheet can be told, where its greens can
  can-parsed : CanBeTold net (cut_at net (end_of_run net) s)
  can-parsed = record {
    lines = length-map-range_with_len (told_line net s.lines (end_of_run net)) 0 (length net.node_names);
    links = shape.links;
    greens = λ node below. subst (All IsToldGreen) (sym (cut-line net (end_of_run net) s node below)) (fits node below);
    counts = λ l below. subst AreToldCounts (sym (clean.links l below)) (parsed-counts net network arriving few s.lines l below);
    totals = subst AreToldSums (sym clean.all) (parsed-sums net network arriving few s.lines);
  }

  -- The text of records that tell it, with the greens alone that a report tells, is a clean text; other records may stand before these
  -- that a sheet passes over.
  pub clean-text : (passed : List (List (List ℕ))) → All IsPassedOver passed → IsCleanText net arriving (records_text (header ∷ (passed ++ sheet_records net (end_of_run net) s)))
  clean-text passed over =
      let bytes : List ℕ = records_text (header ∷ (passed ++ sheet_records net (end_of_run net) s)) in
      let text : IsSheetText net bytes (cut_at net (end_of_run net) s) = written-sheet net network passed over (end_of_run net) s can-parsed in
      record {
        sheet = cut_at net (end_of_run net) s;
        is_text = text;
        only = λ other is. one-sheet net _ other (cut_at net (end_of_run net) s) is text;
        clean = cut-clean net network arriving s clean;
      }
