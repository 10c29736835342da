use Rattle.delay_report.proofs.CleanLaws.{report-clean}
use Rattle.delay_report.proofs.ReportLaws.{reads-back}
use Rattle.delay_report.proofs.TextLaws.{one-history}
use Rattle.delay_report.proofs.reports.law_of_reports.Goals as goal

pub returns-clause-reads_back : goal.returns-clause-reads_back
returns-clause-reads_back c = λ run history lawful. reads-back c.args.net.now c.law_of_network.ensures run history lawful

pub returns-clause-one : goal.returns-clause-one
returns-clause-one c = λ bytes one other. one-history c.args.net.now _ one other

pub returns-clause-clean : goal.returns-clause-clean
returns-clause-clean c = λ run history arriving kept few. report-clean c.args.net.now c.law_of_network.ensures arriving few history run kept
