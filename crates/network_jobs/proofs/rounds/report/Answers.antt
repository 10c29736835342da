use Rattle.std.proofs.Common.{Vec, Global, ℕ, sym, subst}
use Rattle.std.proofs.lemmas.Result.{IfOk-weaker}
use Rattle.arrivals.specs.Amounts.{arriving_of}
use Rattle.delay_report.specs.Reports.{report_text}
use Rattle.delay_report.specs.Texts.{IsHistoryText}
use Rattle.histories.proofs.Sorting.{merge-of}
use Rattle.network_jobs.specs.Headline.{ToldHeadline}
use Rattle.network_jobs.specs.Merged.{IsTextOfMerge}
use Rattle.network_jobs.proofs.Headlines.{headline}
use Rattle.network_jobs.proofs.rounds.report.Goals as goal

pub write_report-requires-clause-lawful : goal.write_report-requires-clause-lawful
write_report-requires-clause-lawful g c history merge = (c.in_ok-logged.ensures history merge).lawful

pub write_report-requires-clause-whole : goal.write_report-requires-clause-whole
write_report-requires-clause-whole g c =
    let told = c.in_ok-logged in
    let merged = merge-of told.logged.logs.items in
    let ran = told.ensures merged.history merged.merge in
    c.law_of_runs.ensures.whole (arriving_of c.args.arrivals.now) merged.history told.logged.run ran.lawful ran.kept.run

pub returns : goal.returns
returns g c =
    let run = c.in_ok-logged.logged.run in
    IfOk-weaker c.write_report.result (λ (text : Vec ℕ Global). IsTextOfMerge c.in_ok-logged.logged.logs.items (report_text c.args.net.now run) text.items)
    (λ (text : Vec ℕ Global). ToldHeadline c.args.net.now (arriving_of c.args.arrivals.now) text.items)
    (λ text told.
    let ran = c.in_ok-logged.ensures told.history told.merge in
    let spells = subst (λ bytes. IsHistoryText c.args.net.now bytes told.history) (sym told.text_is) (c.law_of_reports.ensures.reads_back run told.history ran.lawful) in
    record {
      history = told.history;
      headline = headline c.args.net.now c.law_of_network.ensures c.law_of_reports.ensures.clean c.args.arrivals.now c.requires told.history run text.items ran told.text_is;
      is_text = spells;
      only = λ other also. c.law_of_reports.ensures.one text.items other told.history also spells;
    })
    c.write_report.ensures
