use Rattle.std.proofs.Common.{arith}
use Rattle.audit.proofs.SheetReaderLaws.{come-early, come-sheet}
use Rattle.audit.proofs.sheet_reader.SheetReader.end.Goals as goal

pub returns-then-len-links-clause-none : goal.returns-then-len-links-clause-none
returns-then-len-links-clause-none c = λ parsed come. come-early c.args.net.now parsed c.args.self come (omega arith)

pub returns-clause-some : goal.returns-clause-some
returns-clause-some c = λ parsed come.
    come-sheet c.args.net.now parsed c.args.self come _ (omega arith) c.from_vec.ensures c.from_vec-2.ensures c.in_ok-totals.was
