use Rattle.std.proofs.Common.{arith}
use Rattle.record_text.proofs.RecordLaws.{found-one}
use Rattle.record_text.proofs.WalkLaws.{walked-at, walked-few, walked-more, walked-none}
use Rattle.record_text.proofs.walks.walk.Goals as goal

pub loop-number-init : goal.loop-number-init
loop-number-init g c =
    let (reading, left) = found-one c.args.reader.now c.next_record.new.reader _ _ c.if-not-branch.false c.in_ok-next_record.ensures.ok in
    record { reading = reading; walked = walked-none _ _ _ _ _ _ left (c.is_header.ensures.0 c.if-not-is_header.false) c.requires.none }

pub overflow_add-number : goal.overflow_add-number
overflow_add-number g c =
    let (reading, left) = found-one c.loop-number.reader c.next_record-in-loop-number.new.reader _ _ c.if-branch.true c.in_ok-next_record-2.ensures.ok in
    omega (arith, walked-few _ _ _ _ _ _ _ (walked-at _ _ _ _ _ _ _ _ left c.loop-number.invariant.walked) c.requires.few)

pub loop-number-preserved : goal.loop-number-preserved
loop-number-preserved g c =
    let (reading, left) = found-one c.loop-number.reader c.next_record-in-loop-number.new.reader _ _ c.if-branch.true c.in_ok-next_record-2.ensures.ok in
    record { reading = reading; walked = walked-more _ _ _ _ _ _ _ (walked-at _ _ _ _ _ _ _ _ left c.loop-number.invariant.walked) _ c.in_ok-take.ensures.taken }
