use Rattle.std.proofs.Common.{◌∙◌, arith}
use Rattle.std.proofs.lemmas.List.{take_rest}
use Rattle.text_lines.proofs.Digits.{ends_here}
use Rattle.text_lines.proofs.fields.field_end.Goals as goal

pub returns-in_err-byte-clause-only : goal.returns-in_err-byte-clause-only
returns-in_err-byte-clause-only c = λ n rest le e.
    let at = ends_here c.args.most c.args.place c.args.number c.args.separator c.args.bytes.now c.requires.some c.requires.front c.requires.last (omega arith) (omega arith) c.requires.apart n rest le e in
    absurd (omega (arith, at.1, c.in_err-byte.ensures.lookup.3))

pub returns-then-byte-separator-clause-only : goal.returns-then-byte-separator-clause-only
returns-then-byte-separator-clause-only c = λ n rest le e.
    let at = ends_here c.args.most c.args.place c.args.number c.args.separator c.args.bytes.now c.requires.some c.requires.front c.requires.last (omega arith) (omega arith) c.requires.apart n rest le e in
    c.if-byte-separator.true (c.in_ok-byte.ensures.lookup.3.1 0 ∙ at.0)

pub returns-then-number-most-clause-only : goal.returns-then-number-most-clause-only
returns-then-number-most-clause-only c = λ n rest le e.
    let at = ends_here c.args.most c.args.place c.args.number c.args.separator c.args.bytes.now c.requires.some c.requires.front c.requires.last (omega arith) (omega arith) c.requires.apart n rest le e in
    omega (arith, at.2)

pub returns-clause-only : goal.returns-clause-only
returns-clause-only c = λ n rest le e.
    let at = ends_here c.args.most c.args.place c.args.number c.args.separator c.args.bytes.now c.requires.some c.requires.front c.requires.last (omega arith) (omega arith) c.requires.apart n rest le e in
    (at.2, take_rest c.args.bytes.now _ ∙ at.3)
