use Rattle.std.proofs.Common.{arith}
use Rattle.std.proofs.lemmas.Result.{err_from_is_err_and, IfErr-weaker}
use Rattle.record_text.specs.Records.{records_of}
use Rattle.record_text.proofs.WalkLaws.{counted-few, taken-after}
use Rattle.world_records.proofs.RecordLaws.{few-records}
use Rattle.world_records.specs.Records.{header}
use Rattle.audit.specs.SheetEntries.{HasRead}
use Rattle.audit.specs.SheetFaults.{IsTextFault}
use Rattle.audit.proofs.SheetTextLaws.{fault-refutes, first-fault, taken-all, taken-rows, taken-shape, taken-short}
use Rattle.audit.proofs.sheet_texts.read_sheet.Goals as goal

pub take_records-requires-clause-few : goal.take_records-requires-clause-few
take_records-requires-clause-few c = counted-few _ _ (omega (arith, few-records c.args.bytes.now, c.requires))

pub returns-in_err-take_records-clause-first : goal.returns-in_err-take_records-clause-first
returns-in_err-take_records-clause-first c =
    let p = err_from_is_err_and c.from_residual-in_err-take_records.result c.from_residual-in_err-take_records.ensures.1 in
    rw (p.1, p.2) (first-fault c.args.net.now (records_of c.args.bytes.now) _ c.in_err-take_records.ensures.first)

pub returns-in_err-take_records-clause-refused : goal.returns-in_err-take_records-clause-refused
returns-in_err-take_records-clause-refused c =
    IfErr-weaker c.from_residual-in_err-take_records.result (IsTextFault c.args.net.now c.args.bytes.now) _ (fault-refutes c.args.net.now (records_of c.args.bytes.now)) (returns-in_err-take_records-clause-first c)

pub returns-in-Some-clause-ok : goal.returns-in-Some-clause-ok
returns-in-Some-clause-ok c = taken-all c.args.net.now _ _ (taken-after header (HasRead c.args.net.now) (records_of c.args.bytes.now) c.take_records.new.taker _ c.if-not-branch.false c.in_ok-take_records.ensures.taken) c.in-Some.sheet c.in-Some.ensures.some

pub returns-in-Some-clause-shape : goal.returns-in-Some-clause-shape
returns-in-Some-clause-shape c = taken-shape c.args.net.now _ _ (taken-after header (HasRead c.args.net.now) (records_of c.args.bytes.now) c.take_records.new.taker _ c.if-not-branch.false c.in_ok-take_records.ensures.taken) c.in-Some.sheet c.in-Some.ensures.some

pub returns-in-Some-clause-rows : goal.returns-in-Some-clause-rows
returns-in-Some-clause-rows c =
    taken-rows c.args.net.now _ _ (taken-after header (HasRead c.args.net.now) (records_of c.args.bytes.now) c.take_records.new.taker _ c.if-not-branch.false c.in_ok-take_records.ensures.taken) c.in-Some.sheet (omega (arith, few-records c.args.bytes.now, c.requires)) c.in-Some.ensures.some

pub returns-in-None-clause-first : goal.returns-in-None-clause-first
returns-in-None-clause-first c = taken-short c.args.net.now _ _ (taken-after header (HasRead c.args.net.now) (records_of c.args.bytes.now) c.take_records.new.taker _ c.if-not-branch.false c.in_ok-take_records.ensures.taken) c.in-None.ensures.none
