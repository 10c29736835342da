use Rattle.std.proofs.Common.{length, ap, length-append, arith}
use Rattle.text_lines.proofs.LineLaws.{digits-long, spaced-length}
use Rattle.instance_form.proofs.writing.write_head.Goals as goal

-- how long the line is by now
pub put_spaced-requires : goal.put_spaced-requires
put_spaced-requires c =
    omega (arith, ap length c.put_word.ensures, length-append c.head_end.result.now c.new-line.result, ap length c.new-line.ensures, c.head_end.ensures.short, digits-long c.from.result c.from.type_inv)

pub put_spaced-requires-2 : goal.put_spaced-requires-2
put_spaced-requires-2 c =
    let l1 = spaced-length c.put_word.new.self c.put_spaced.new.self c.from.result 20 c.put_spaced.ensures (digits-long c.from.result c.from.type_inv) in
    omega (arith, ap length c.put_word.ensures, length-append c.head_end.result.now c.new-line.result, ap length c.new-line.ensures, c.head_end.ensures.short, l1, digits-long c.from-2.result c.from-2.type_inv)

pub put_spaced-requires-3 : goal.put_spaced-requires-3
put_spaced-requires-3 c =
    let l1 = spaced-length c.put_word.new.self c.put_spaced.new.self c.from.result 20 c.put_spaced.ensures (digits-long c.from.result c.from.type_inv) in
    let l2 = spaced-length c.put_spaced.new.self c.put_spaced-2.new.self c.from-2.result 20 c.put_spaced-2.ensures (digits-long c.from-2.result c.from-2.type_inv) in
    omega (arith, ap length c.put_word.ensures, length-append c.head_end.result.now c.new-line.result, ap length c.new-line.ensures, c.head_end.ensures.short, l1, l2, digits-long c.from-3.result c.from-3.type_inv)

pub put_word-requires-2 : goal.put_word-requires-2
put_word-requires-2 c =
    let l1 = spaced-length c.put_word.new.self c.put_spaced.new.self c.from.result 20 c.put_spaced.ensures (digits-long c.from.result c.from.type_inv) in
    let l2 = spaced-length c.put_spaced.new.self c.put_spaced-2.new.self c.from-2.result 20 c.put_spaced-2.ensures (digits-long c.from-2.result c.from-2.type_inv) in
    let l3 = spaced-length c.put_spaced-2.new.self c.put_spaced-3.new.self c.from-3.result 20 c.put_spaced-3.ensures (digits-long c.from-3.result c.from-3.type_inv) in
    omega (arith, ap length c.put_word.ensures, length-append c.head_end.result.now c.new-line.result, ap length c.new-line.ensures, c.head_end.ensures.short, l1, l2, l3)
