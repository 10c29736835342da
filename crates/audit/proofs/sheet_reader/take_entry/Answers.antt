use Rattle.audit.proofs.SheetReaderLaws.{come-passed}
use Rattle.audit.proofs.sheet_reader.take_entry.Goals as goal

pub returns-in-Ignored-clause-ok : goal.returns-in-Ignored-clause-ok
returns-in-Ignored-clause-ok c = λ parsed come. rw c.in-Ignored.is (come-passed c.args.net.now parsed c.args.reader.now come)
