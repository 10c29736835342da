use Rattle.csv.specs.Records.{fields_of}
use Rattle.round_states.proofs.TextLaws.{refused-row, taken-more}
use Rattle.round_states.proofs.texts.StateReaderRecordTaker.take.Goals as goal

pub returns-clause-taken : goal.returns-clause-taken
returns-clause-taken c = taken-more c.args.net.now (fields_of c.args.row.now) c.args.number c.args.self.now c.add.new.self c.in_ok-entry.entry c.in_ok-entry.ensures c.add.result c.add.ensures

pub returns-clause-first : goal.returns-clause-first
returns-clause-first c = refused-row c.args.net.now (fields_of c.args.row.now) c.args.number c.args.self.now c.add.new.self c.in_ok-entry.entry c.in_ok-entry.ensures c.add.result c.add.ensures
