use Rattle.csv.specs.Records.{fields_of}
use Rattle.arrivals.proofs.TextLaws.{refused-row, taken-more}
use Rattle.arrivals.proofs.texts.RowListRecordTaker.take.Goals as goal

pub returns-clause-taken : goal.returns-clause-taken
returns-clause-taken c = taken-more c.args.net.now (fields_of c.args.row.now) c.args.number c.args.self.now c.add.new.self c.in_ok-row.row c.in_ok-row.ensures c.add.result c.add.ensures.taken c.add.ensures.added

pub returns-clause-first : goal.returns-clause-first
returns-clause-first c = refused-row c.args.net.now (fields_of c.args.row.now) c.args.number c.args.self.now c.add.new.self c.in_ok-row.row c.in_ok-row.ensures c.add.result c.add.ensures.first
