use Rattle.csv.specs.Records.{fields_of}
use Rattle.audit.specs.SheetEntries.{in_words}
use Rattle.audit.proofs.SheetTextLaws.{taken-more}
use Rattle.audit.proofs.sheet_texts.SheetReaderRecordTaker.take.Goals as goal

pub take_entry-requires-clause-lines : goal.take_entry-requires-clause-lines
take_entry-requires-clause-lines c = c.requires.come.1.come.lines

pub returns-clause-taken : goal.returns-clause-taken
returns-clause-taken c = taken-more c.args.net.now (fields_of c.args.row.now) (in_words c.in-Some.entry) c.args.self.now c.take_entry.new.reader c.take_entry.result c.in-Some.ensures c.take_entry.ensures.ok
