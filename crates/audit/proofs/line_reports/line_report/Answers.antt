use Rattle.std.proofs.lemmas.Result.{IfOk-weaker}
use Rattle.std.proofs.Common.{◌≡◌, Vec, Global, ℕ, List, sym, subst, rules}
use Rattle.audit.specs.Audits.{IsCleanText}
use Rattle.audit.specs.SheetTexts.{IsSheetText}
use Rattle.net_simulator.specs.Sums.{end_of_run}
use Rattle.audit.specs.declared.sheet.Sheet.{Sheet}
use Rattle.world_records.specs.Written.{HasWritten}
use Rattle.audit.specs.LineReports.{cut_at, line_text}
use Rattle.audit.proofs.LineReportLaws.{report-clean, report-parts, report-sheet}
use Rattle.audit.proofs.line_reports.line_report.Goals as goal

pub returns-clause-text : goal.returns-clause-text
returns-clause-text c =
    let s : Sheet = record { lines = c.args.lines.now; links = c.args.links.now; totals = c.args.totals } in
    IfOk-weaker c.finish.result _ (λ (text : Vec ℕ Global). text.items ≡ line_text c.args.net.now s)
    (λ text says. says (line_text c.args.net.now s)
    (report-parts c.args.net.now s c.start-out.result c.write_header.new.out c.write_shown.new.out
    (subst (HasWritten c.start-out.result) c.new.ensures.items c.start-out.ensures) c.in_ok-write_header.ensures c.in_ok-write_shown.ensures.records))
    c.finish.ensures

pub returns-clause-sheet : goal.returns-clause-sheet
returns-clause-sheet c =
    let net = c.args.net.now in
    let s : Sheet = record { lines = c.args.lines.now; links = c.args.links.now; totals = c.args.totals } in
    let whole : Sheet = cut_at net (end_of_run net) s in
    IfOk-weaker c.finish.result (λ (text : Vec ℕ Global). text.items ≡ line_text net s) (λ (text : Vec ℕ Global). IsSheetText net text.items whole)
    (λ text is. subst (λ (bytes : List ℕ). IsSheetText net bytes whole) (sym is)
    (report-sheet net c.law_of_network.ensures s c.requires c.in_ok-write_shown.ensures.told c.in_ok-write_shown.ensures.counts (search rules)))
    (returns-clause-text c)

pub returns-clause-clean : goal.returns-clause-clean
returns-clause-clean c arriving few clean =
    let s : Sheet = record { lines = c.args.lines.now; links = c.args.links.now; totals = c.args.totals } in
    IfOk-weaker c.finish.result (λ (text : Vec ℕ Global). text.items ≡ line_text c.args.net.now s) (λ (text : Vec ℕ Global). IsCleanText c.args.net.now arriving text.items)
    (λ text is. subst (IsCleanText c.args.net.now arriving) (sym is) (report-clean c.args.net.now c.law_of_network.ensures arriving few s c.requires clean c.in_ok-write_shown.ensures.told))
    (returns-clause-text c)
