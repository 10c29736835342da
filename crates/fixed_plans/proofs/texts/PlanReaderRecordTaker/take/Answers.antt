use Rattle.csv.specs.Records.{fields_of}
use Rattle.fixed_plans.proofs.TextLaws.{node-within, refused-row, taken-more, taken-placed}
use Rattle.fixed_plans.proofs.texts.PlanReaderRecordTaker.take.Goals as goal

pub add_row-requires-clause-node : goal.add_row-requires-clause-node
add_row-requires-clause-node c = node-within c.args.net.now (fields_of c.args.row.now) c.in_ok-row.row c.in_ok-row.ensures

pub add_row-requires-clause-before : goal.add_row-requires-clause-before
add_row-requires-clause-before c = taken-placed c.args.net.now c.requires.come.0 c.args.self.now c.requires.come.1

pub returns-clause-taken : goal.returns-clause-taken
returns-clause-taken c = taken-more c.args.net.now (fields_of c.args.row.now) c.args.number c.args.self.now c.add_row.new.reader c.in_ok-row.row c.in_ok-row.ensures c.add_row.result c.add_row.ensures

pub returns-clause-first : goal.returns-clause-first
returns-clause-first c = refused-row c.args.net.now (fields_of c.args.row.now) c.args.number c.args.self.now c.add_row.new.reader c.in_ok-row.row c.in_ok-row.ensures c.add_row.result c.add_row.ensures
