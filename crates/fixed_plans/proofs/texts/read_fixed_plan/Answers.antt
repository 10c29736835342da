use Rattle.std.proofs.lemmas.Result.{err_from_is_err_and, IfErr-weaker}
use Rattle.record_text.specs.Records.{records_of}
use Rattle.record_text.proofs.WalkLaws.{taken-after}
use Rattle.fixed_plans.specs.Faults.{IsTextFault}
use Rattle.fixed_plans.specs.Records.{header}
use Rattle.fixed_plans.specs.Readers.{HasRead}
use Rattle.fixed_plans.proofs.TextLaws.{fault-refutes, first-fault, taken-few, taken-none, taken-placed}
use Rattle.fixed_plans.proofs.texts.read_fixed_plan.Goals as goal

pub take_records-requires-clause-few : goal.take_records-requires-clause-few
take_records-requires-clause-few c = taken-few c.args.net.now c.law_of_network.ensures (records_of c.args.bytes.now)

pub take_records-requires-clause-none : goal.take_records-requires-clause-none
take_records-requires-clause-none c = taken-none c.args.net.now _ c.none-reader.ensures.rows c.none-reader.ensures.last

pub returns-in_err-take_records-clause-first : goal.returns-in_err-take_records-clause-first
returns-in_err-take_records-clause-first c =
    let p = err_from_is_err_and c.from_residual.result c.from_residual.ensures.1 in
    rw (p.1, p.2) (first-fault c.args.net.now (records_of c.args.bytes.now) _ c.in_err-take_records.ensures.first)

pub returns-in_err-take_records-clause-refused : goal.returns-in_err-take_records-clause-refused
returns-in_err-take_records-clause-refused c =
    IfErr-weaker c.from_residual.result (IsTextFault c.args.net.now c.args.bytes.now) _ (fault-refutes c.args.net.now (records_of c.args.bytes.now)) (returns-in_err-take_records-clause-first c)

pub is_end-requires : goal.is_end-requires
is_end-requires c =
    let taken = taken-after header (HasRead c.args.net.now) (records_of c.args.bytes.now) c.take_records.new.taker _ c.if-not-branch.false c.in_ok-take_records.ensures.taken in
    taken-placed c.args.net.now taken.records _ taken.after
