use Rattle.std.proofs.lemmas.Result.{err_from_is_err_and, IfErr-weaker}
use Rattle.record_text.specs.Records.{records_of}
use Rattle.record_text.proofs.WalkLaws.{taken-after}
use Rattle.spillback_world.specs.StoreReaders.{HasRead}
use Rattle.spillback_world.specs.StoreRecords.{header}
use Rattle.spillback_world.specs.StoreTexts.{IsTextFault}
use Rattle.spillback_world.proofs.StoreReaderLaws.{storages-within}
use Rattle.spillback_world.proofs.StoreTextLaws.{fault-refutes, first-fault, taken-all, taken-few, taken-none}
use Rattle.spillback_world.proofs.store_texts.read_store.Goals as goal

pub take_records-requires-clause-few : goal.take_records-requires-clause-few
take_records-requires-clause-few c = taken-few c.args.net.now (records_of c.args.bytes.now) c.in_ok-reader.ensures.network.outline.link_count.1

pub take_records-requires-clause-none : goal.take_records-requires-clause-none
take_records-requires-clause-none c = taken-none c.args.net.now _ c.in_ok-reader.ensures.none

pub returns-in_err-take_records-clause-first : goal.returns-in_err-take_records-clause-first
returns-in_err-take_records-clause-first c =
    let p = err_from_is_err_and c.from_residual-in_err-take_records.result c.from_residual-in_err-take_records.ensures.1 in
    rw (p.1, p.2) (first-fault c.args.net.now (records_of c.args.bytes.now) _ c.in_err-take_records.ensures.first)

pub returns-in_err-take_records-clause-refused : goal.returns-in_err-take_records-clause-refused
returns-in_err-take_records-clause-refused c =
    IfErr-weaker c.from_residual-in_err-take_records.result (IsTextFault c.args.net.now c.args.bytes.now) _ (fault-refutes c.args.net.now (records_of c.args.bytes.now)) (returns-in_err-take_records-clause-first c)

pub end-requires : goal.end-requires
end-requires c =
    let taken = taken-after header (HasRead c.args.net.now) (records_of c.args.bytes.now) c.take_records.new.taker _ c.if-not-branch.false c.in_ok-take_records.ensures.taken in
    storages-within c.args.net.now taken.after.rows c.take_records.new.taker.storages.items taken.after.of_rows

pub returns-clause-ok : goal.returns-clause-ok
returns-clause-ok c = taken-all c.args.net.now (records_of c.args.bytes.now) c.take_records.new.taker _ (taken-after header (HasRead c.args.net.now) (records_of c.args.bytes.now) c.take_records.new.taker _ c.if-not-branch.false c.in_ok-take_records.ensures.taken) c.in_ok-store.ensures
