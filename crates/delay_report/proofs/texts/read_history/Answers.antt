use Rattle.std.proofs.Common.{sym, ◌∙◌, arith}
use Rattle.std.proofs.lemmas.Bool.{false≢true}
use Rattle.std.proofs.lemmas.Result.{err_from_is_err_and, IfErr-weaker}
use Rattle.record_text.specs.Records.{records_of}
use Rattle.record_text.proofs.WalkLaws.{counted-few, taken-after}
use Rattle.world_records.proofs.RecordLaws.{few-records}
use Rattle.world_records.specs.Records.{header}
use Rattle.delay_report.specs.Faults.{IsTextFault}
use Rattle.delay_report.specs.Readers.{HasRead}
use Rattle.delay_report.proofs.TextLaws.{fault-refutes, first-fault, taken-short}
use Rattle.delay_report.proofs.texts.read_history.Goals as goal

pub take_records-requires-clause-few : goal.take_records-requires-clause-few
take_records-requires-clause-few c = counted-few _ _ (omega (arith, few-records c.args.bytes.now, c.requires))

pub returns-in_err-take_records-clause-first : goal.returns-in_err-take_records-clause-first
returns-in_err-take_records-clause-first c =
    let p = err_from_is_err_and c.from_residual-in_err-take_records.result c.from_residual-in_err-take_records.ensures.1 in
    rw (p.1, p.2) (first-fault c.args.net.now (records_of c.args.bytes.now) _ c.in_err-take_records.ensures.first)

pub returns-in_err-take_records-clause-refused : goal.returns-in_err-take_records-clause-refused
returns-in_err-take_records-clause-refused c =
    IfErr-weaker c.from_residual-in_err-take_records.result (IsTextFault c.args.net.now c.args.bytes.now) _ (fault-refutes c.args.net.now (records_of c.args.bytes.now)) (returns-in_err-take_records-clause-first c)

pub returns-then-not-is_over-clause-first : goal.returns-then-not-is_over-clause-first
returns-then-not-is_over-clause-first c =
    let reader = c.take_records.new.taker in
    let taken = taken-after header (HasRead c.args.net.now) (records_of c.args.bytes.now) reader _ c.if-not-branch.false c.in_ok-take_records.ensures.taken in
    taken-short c.args.net.now (records_of c.args.bytes.now) reader taken (λ lawful. false≢true (sym c.if-not-is_over.true ∙ (c.is_over.ensures c.args.net.now reader.steps.items taken.after.come).1 lawful))
