use Rattle.std.proofs.Common.{ℕ, List, ◌∷◌, length, ap, ◌∙◌, arith}
use Rattle.text_lines.proofs.LineLaws.{digits-long, spaced-length}
use Rattle.certificate_form.proofs.WritingLaws.{back_filled}
use Rattle.certificate_form.proofs.writing.put_back.Goals as goal

pub put_spaced-requires : goal.put_spaced-requires
put_spaced-requires c = omega (arith, ap length c.put_byte.ensures, ap length c.clear.ensures, digits-long c.args.entry.now.delay (omega arith))

pub put_spaced-requires-2 : goal.put_spaced-requires-2
put_spaced-requires-2 c =
    let l1 = spaced-length c.put_byte.new.self c.put_spaced.new.self c.args.entry.now.delay 20 c.put_spaced.ensures (digits-long c.args.entry.now.delay (omega arith)) in
    omega (arith, ap length c.put_byte.ensures, ap length c.clear.ensures, l1, digits-long c.from.result c.from.type_inv)

pub put_spaced-requires-3 : goal.put_spaced-requires-3
put_spaced-requires-3 c =
    let l1 = spaced-length c.put_byte.new.self c.put_spaced.new.self c.args.entry.now.delay 20 c.put_spaced.ensures (digits-long c.args.entry.now.delay (omega arith)) in
    let l2 = spaced-length c.put_spaced.new.self c.put_spaced-2.new.self c.from.result 20 c.put_spaced-2.ensures (digits-long c.from.result c.from.type_inv) in
    omega (arith, ap length c.put_byte.ensures, ap length c.clear.ensures, l1, l2, digits-long c.from-2.result c.from-2.type_inv)

pub returns-clause-text : goal.returns-clause-text
returns-clause-text c =
    back_filled c.args.entry.now c.put_byte.new.self c.put_spaced.new.self c.put_spaced-2.new.self c.put_spaced-3.new.self c.from.result c.from-2.result
    (c.put_byte.ensures ∙ ap (λ (y : List ℕ). 10 ∷ y) c.clear.ensures) c.put_spaced.ensures c.put_spaced-2.ensures c.from.ensures c.put_spaced-3.ensures c.from-2.ensures

pub returns-clause-short : goal.returns-clause-short
returns-clause-short c =
    let l1 = spaced-length c.put_byte.new.self c.put_spaced.new.self c.args.entry.now.delay 20 c.put_spaced.ensures (digits-long c.args.entry.now.delay (omega arith)) in
    let l2 = spaced-length c.put_spaced.new.self c.put_spaced-2.new.self c.from.result 20 c.put_spaced-2.ensures (digits-long c.from.result c.from.type_inv) in
    let l3 = spaced-length c.put_spaced-2.new.self c.put_spaced-3.new.self c.from-2.result 20 c.put_spaced-3.ensures (digits-long c.from-2.result c.from-2.type_inv) in
    omega (arith, ap length c.put_byte.ensures, ap length c.clear.ensures, l1, l2, l3)
