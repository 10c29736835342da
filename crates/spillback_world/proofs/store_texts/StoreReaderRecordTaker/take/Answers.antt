use Rattle.std.proofs.Common.{arith}
use Rattle.csv.specs.Records.{fields_of}
use Rattle.spillback_world.proofs.StoreTextLaws.{refused-row, row-exists, taken-more}
use Rattle.spillback_world.proofs.store_texts.StoreReaderRecordTaker.take.Goals as goal

pub add-requires : goal.add-requires
add-requires c = omega (arith, row-exists c.args.net.now (fields_of c.args.row.now) c.in_ok-row.row c.in_ok-row.ensures, c.requires.come.1.of_rows.links)

pub returns-clause-taken : goal.returns-clause-taken
returns-clause-taken c = taken-more c.args.net.now (fields_of c.args.row.now) c.args.number c.args.self.now.storages.items c.add.new.self.storages.items c.in_ok-row.row c.in_ok-row.ensures c.add.result c.add.ensures

pub returns-clause-first : goal.returns-clause-first
returns-clause-first c = refused-row c.args.net.now (fields_of c.args.row.now) c.args.number c.args.self.now.storages.items c.add.new.self.storages.items c.in_ok-row.row c.in_ok-row.ensures c.add.result c.add.ensures
