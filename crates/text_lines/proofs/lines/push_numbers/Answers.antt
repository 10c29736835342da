use Rattle.text_lines.proofs.LineLaws.{numbers-next}
use Rattle.text_lines.proofs.lines.push_numbers.Goals as goal

pub loop-number-preserved : goal.loop-number-preserved
loop-number-preserved c =
    numbers-next c.args.numbers.now c.loop-number.number-index _ c.args.text.now.items c.loop-number.text.items _ _ c.loop-number-test.true c.from.ensures c.loop-number.invariant c.in_ok-extend_from_slice.ensures.items c.in_ok-push_number.ensures
