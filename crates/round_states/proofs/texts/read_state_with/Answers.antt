use Rattle.std.proofs.Common.{◌++◌, arith}
use Rattle.std.proofs.lemmas.Result.{IfErr-weaker, IfOk-weaker}
use Rattle.record_text.specs.Records.{records_of}
use Rattle.record_text.proofs.WalkLaws.{counted-few, taken-after}
use Rattle.world_records.proofs.RecordLaws.{few-records}
use Rattle.round_states.specs.declared.faults.StateFault.TheVariants.{Header}
use Rattle.round_states.specs.NextTexts.{IsTextFaultWith}
use Rattle.round_states.specs.Readers.{HasRead, IsFaultWith}
use Rattle.round_states.specs.StateRecords.{header}
use Rattle.round_states.specs.Texts.{TellState}
use Rattle.round_states.proofs.TextLaws.{fault-refutes}
use Rattle.round_states.proofs.KeptLaws.{fault-before, fault-with, no-header, state-with}
use Rattle.round_states.proofs.texts.read_state_with.Goals as goal

pub take_records-requires-clause-few : goal.take_records-requires-clause-few
take_records-requires-clause-few c = counted-few _ _ (omega (arith, few-records c.args.bytes.now, c.requires.few))

pub returns-in-Ok-true-clause-ok : goal.returns-in-Ok-true-clause-ok
returns-in-Ok-true-clause-ok c = λ told kept.
    IfOk-weaker c.state_with.result (TellState c.args.net.now c.args.asked (c.take_records.new.taker.all.items ++ c.args.kept.now.all.items)) _
    (state-with c.args.net.now c.args.asked c.args.bytes.now told c.args.kept.now kept c.take_records.new.taker.all.items
    (taken-after header (HasRead c.args.net.now) (records_of c.args.bytes.now) c.take_records.new.taker _ c.in-Ok-true.field-0-test c.in-Ok-true.ensures.taken))
    c.state_with.ensures.ok

pub returns-in-Ok-true-clause-first : goal.returns-in-Ok-true-clause-first
returns-in-Ok-true-clause-first c = λ told kept.
    IfErr-weaker c.state_with.result (IsFaultWith c.args.net.now c.args.asked c.take_records.new.taker.all.items c.args.kept.now.all.items) _
    (fault-with c.args.net.now c.args.asked c.args.bytes.now told c.args.kept.now kept c.take_records.new.taker.all.items
    (taken-after header (HasRead c.args.net.now) (records_of c.args.bytes.now) c.take_records.new.taker _ c.in-Ok-true.field-0-test c.in-Ok-true.ensures.taken))
    c.state_with.ensures.first

pub returns-in-Ok-true-clause-refused : goal.returns-in-Ok-true-clause-refused
returns-in-Ok-true-clause-refused c = λ told kept.
    IfErr-weaker c.state_with.result (IsTextFaultWith c.args.net.now c.args.asked told c.args.bytes.now) _ (fault-refutes c.args.net.now c.args.asked (records_of c.args.bytes.now ++ told)) (returns-in-Ok-true-clause-first c told kept)

pub returns-in-Ok-false-clause-first : goal.returns-in-Ok-false-clause-first
returns-in-Ok-false-clause-first c = λ told kept. no-header c.args.net.now c.args.asked c.args.bytes.now told c.args.kept.now kept (rw c.in-Ok-false.field-0-test at c.in-Ok-false.ensures.taken)

pub returns-in-Ok-false-clause-refused : goal.returns-in-Ok-false-clause-refused
returns-in-Ok-false-clause-refused c = λ told kept. fault-refutes c.args.net.now c.args.asked (records_of c.args.bytes.now ++ told) Header (returns-in-Ok-false-clause-first c told kept)

pub returns-in-Err-clause-first : goal.returns-in-Err-clause-first
returns-in-Err-clause-first c = λ told kept. fault-before c.args.net.now c.args.asked c.args.bytes.now told c.args.kept.now kept c.in-Err.fault c.in-Err.ensures.first

pub returns-in-Err-clause-refused : goal.returns-in-Err-clause-refused
returns-in-Err-clause-refused c = λ told kept. fault-refutes c.args.net.now c.args.asked (records_of c.args.bytes.now ++ told) c.in-Err.fault (returns-in-Err-clause-first c told kept)
