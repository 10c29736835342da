use Rattle.std.proofs.Common.{length, ap, arith}
use Rattle.text_lines.proofs.LineLaws.{digits-long, spaced-length}
use Rattle.certificate_form.proofs.WritingLaws.{front_filled}
use Rattle.certificate_form.proofs.writing.put_front.Goals as goal

pub put_spaced-requires : goal.put_spaced-requires
put_spaced-requires c = omega (arith, ap length c.clear.ensures, digits-long c.from.result c.from.type_inv)

pub put_counts-requires-clause-room : goal.put_counts-requires-clause-room
put_counts-requires-clause-room c =
    let l1 = spaced-length c.clear.new.self c.put_spaced.new.self c.from.result 20 c.put_spaced.ensures (digits-long c.from.result c.from.type_inv) in
    omega (arith, ap length c.clear.ensures, l1)

pub put_word-requires : goal.put_word-requires
put_word-requires c =
    let l1 = spaced-length c.clear.new.self c.put_spaced.new.self c.from.result 20 c.put_spaced.ensures (digits-long c.from.result c.from.type_inv) in
    omega (arith, ap length c.clear.ensures, l1, c.put_counts.ensures.room)

pub returns-clause-text : goal.returns-clause-text
returns-clause-text c =
    front_filled c.args.phases c.args.entry.now c.clear.new.self c.put_spaced.new.self c.put_counts.new.line c.put_word.new.self c.from.result
    c.clear.ensures c.put_spaced.ensures c.from.ensures c.put_counts.ensures.text c.put_word.ensures

pub returns-clause-short : goal.returns-clause-short
returns-clause-short c =
    let l1 = spaced-length c.clear.new.self c.put_spaced.new.self c.from.result 20 c.put_spaced.ensures (digits-long c.from.result c.from.type_inv) in
    omega (arith, ap length c.clear.ensures, l1, c.put_counts.ensures.room, ap length c.put_word.ensures)
