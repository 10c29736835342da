use Rattle.csv.specs.Records.{fields_of}
use Rattle.delay_report.proofs.TextLaws.{taken-more}
use Rattle.delay_report.proofs.texts.HistoryReaderRecordTaker.take.Goals as goal

pub take_step-requires-clause-come : goal.take_step-requires-clause-come
take_step-requires-clause-come c = c.requires.come.1.come

pub returns-clause-taken : goal.returns-clause-taken
returns-clause-taken c = taken-more c.args.net.now (fields_of c.args.row.now) c.args.self.now _ c.take_step.result c.take_step.ensures.taken
