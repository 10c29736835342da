use Rattle.std.proofs.Common.{◌≡◌, List, length, slice_index, ap, subst, ◌∙◌}
use Rattle.std.proofs.lemmas.List.FromFn.{length-map-range_with_len}
use Rattle.arrivals.specs.Amounts.{arriving_of}
use Rattle.audit.specs.LineReports.{cut_at, line_text}
use Rattle.audit.specs.SheetTexts.{IsSheetText}
use Rattle.audit.specs.declared.sheet.Sheet.{Sheet}
use Rattle.control_flow.specs.declared.greens.Green.{Green}
use Rattle.net_simulator.specs.Sums.{end_of_run, link_totals}
use Rattle.net_simulator.specs.Worlds.{line_in, signs_by}
use Rattle.net_simulator.specs.declared.totals.LinkTotals.{LinkTotals}
use Rattle.spillback_world.specs.Storage.{cumulative_in}
use Rattle.spillback_world.specs.StoredLinks.{stored_links}
use Rattle.controller_jobs.specs.Storages.{told_totals}
use Rattle.controller_jobs.proofs.spill_report.report_spill.Goals as goal

pub report_text-requires : goal.report_text-requires
report_text-requires c =
    let net = c.args.net.now in
    let shown = signs_by (line_in c.as_slice.result.now) in
    record {
      lines = c.in_ok-run.ensures.lines;
      links = ap length (c.as_slice-2.ensures.value ∙ c.in_ok-links.ensures) ∙ length-map-range_with_len (link_totals net (cumulative_in net (arriving_of c.args.arrivals.now) (slice_index c.args.store.now) shown (end_of_run net)) (end_of_run net)) 0 (length net.link_names);
    }

pub returns : goal.returns
returns c =
    let net = c.args.net.now in
    let ran = c.in_ok-run.ensures in
    let run = c.in_ok-run.run' in
    let links : c.as_slice-2.result.now ≡ stored_links net (arriving_of c.args.arrivals.now) (slice_index c.args.store.now) (signs_by (line_in run.timelines)) (end_of_run net) =
    c.as_slice-2.ensures.value ∙ c.in_ok-links.ensures
    ∙ ap (λ (lines : List (List Green)). stored_links net (arriving_of c.args.arrivals.now) (slice_index c.args.store.now) (signs_by (line_in lines)) (end_of_run net)) c.as_slice.ensures in
    let sheet : List LinkTotals → Sheet = λ all. record { lines = run.timelines; links = all; totals = told_totals run.totals } in
    record {
      run = run;
      runs = ran.run;
      lawful = ran.lawful;
      safe = ran.safe;
      signs = ran.signs ran.run;
      counts = ran.counts;
      report = c.in_ok-text.ensures.text ∙ ap (λ (all : List LinkTotals). line_text net (sheet all)) links;
      sheet = subst (λ (all : List LinkTotals). IsSheetText net c.in_ok-text.text.items (cut_at net (end_of_run net) (sheet all))) links c.in_ok-text.ensures.sheet;
    }
