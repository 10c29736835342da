-- What a world shows at the end of a run under given lines.
use Rattle.std.proofs.Common.{◌≡◌, ℕ, List, length, map, refl, subst, ◌∙◌, arith}
use Rattle.std.specs.List.{range_with_len}
use Rattle.std.proofs.lemmas.List.FromFn.{get_or-map-range_with_len, length-map-range_with_len}
use Rattle.control_flow.specs.declared.greens.Green.{Green}
use Rattle.net_parts.specs.Numbers.{Net}
use Rattle.net_simulator.specs.Counts.{counts_at, no_totals}
use Rattle.net_simulator.specs.Flow.{cumulative_under}
use Rattle.net_simulator.specs.Sums as sums
use Rattle.net_simulator.specs.Sums.{end_of_run, link_totals}
use Rattle.net_simulator.specs.Worlds.{Stands, WorldState, line_in, signs_by}
use Rattle.net_simulator.specs.declared.totals.LinkTotals.{LinkTotals}
use Rattle.net_simulator.specs.declared.totals.Totals.{Totals}
use Rattle.net_simulator.proofs.Sums.{range-same}
use Rattle.audit.specs.declared.sheet.Sheet.{Sheet}
use Rattle.audit.specs.SheetTexts.{HasShape}
use Rattle.audit.specs.Audits.{AreLawful, IsClean}
use Rattle.net_simulator.specs.Shown.{link_shown}
use Rattle.audit.specs.LineRuns.{shown_sheet}

module _ (net : Net) (arriving : ℕ → ℕ → ℕ) (lines : List (List Green)) where
  -- lawful lines, with what the world counts under them, are a clean sheet
  pub shown-clean : AreLawful net lines → IsClean net arriving (shown_sheet net arriving lines)
  shown-clean lawful = record {
    lawful = lawful;
    links = λ l below. get_or-map-range_with_len (link_shown net arriving lines) 0 (length net.link_names) l l no_totals below (omega arith);
    all = refl;
  }

  pub shown-shape : length lines ≡ length net.node_names → HasShape net (shown_sheet net arriving lines)
  shown-shape nodes = record { lines = nodes; links = length-map-range_with_len (link_shown net arriving lines) 0 (length net.link_names) }

  -- it is what a world has counted that moved under these lines up to the end of the run
  pub counted-shown : (w : WorldState) → Stands net arriving (signs_by (line_in lines)) w → w.second ≡ end_of_run net → (rows : List (List Green)) (links : List LinkTotals) (totals : Totals) → rows ≡ lines
      → links ≡ map (counts_at w.counts) (range_with_len 0 (length net.link_names)) → totals ≡ w.totals → (let s : Sheet = record { lines = rows; links = links; totals = totals } in s) ≡ shown_sheet net arriving lines
  counted-shown w stands at rows links totals same counted all =
      let each : map (counts_at w.counts) (range_with_len 0 (length net.link_names)) ≡ map (link_shown net arriving lines) (range_with_len 0 (length net.link_names)) =
      range-same (counts_at w.counts) (link_shown net arriving lines) (length net.link_names) (λ l below. subst (λ x. counts_at w.counts l ≡ link_totals net (cumulative_under net arriving (signs_by (line_in lines)) x) x l) at (stands.counts l below)) in
      let whole = all ∙ subst (λ x. w.totals ≡ sums.totals net arriving (cumulative_under net arriving (signs_by (line_in lines)) x) x) at stands.totals in
      let of_links = counted ∙ each in
      λ i. record { lines = same i; links = of_links i; totals = whole i }
