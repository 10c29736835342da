use Rattle.record_text.specs.Records.{records_of}
use Rattle.record_text.proofs.WalkLaws.{taken-after}
use Rattle.arrivals.specs.Records.{header}
use Rattle.arrivals.specs.Stored.{HasRead}
use Rattle.arrivals.proofs.RowLaws.{arrivals-of}
use Rattle.arrivals.proofs.TextLaws.{fault-refutes, first-fault, taken-few, taken-none}
use Rattle.arrivals.proofs.texts.read_arrivals.Goals as goal

pub take_records-requires-clause-few : goal.take_records-requires-clause-few
take_records-requires-clause-few c = taken-few c.args.net.now (records_of c.args.bytes.now)

pub take_records-requires-clause-none : goal.take_records-requires-clause-none
take_records-requires-clause-none c = taken-none c.args.net.now _ c.new-list.ensures

pub returns-in-Err-clause-first : goal.returns-in-Err-clause-first
returns-in-Err-clause-first c = first-fault c.args.net.now (records_of c.args.bytes.now) _ c.in-Err.ensures.first

pub returns-in-Err-clause-refused : goal.returns-in-Err-clause-refused
returns-in-Err-clause-refused c = fault-refutes c.args.net.now (records_of c.args.bytes.now) _ (returns-in-Err-clause-first c)

pub returns-in_ok-into_arrivals-in-Ok-true-clause-arrivals : goal.returns-in_ok-into_arrivals-in-Ok-true-clause-arrivals
returns-in_ok-into_arrivals-in-Ok-true-clause-arrivals c =
    let taken = taken-after header (HasRead c.args.net.now) (records_of c.args.bytes.now) c.take_records.new.taker _ c.in-Ok-true.field-0-test c.in-Ok-true.ensures.taken in
    arrivals-of c.args.net.now c.take_records.new.taker _ (record { lawful = taken.after.lawful; kept = c.in_ok-into_arrivals-in-Ok-true.ensures.kept; sums = c.in_ok-into_arrivals-in-Ok-true.ensures.sums })
