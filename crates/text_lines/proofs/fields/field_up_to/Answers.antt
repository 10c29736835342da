use Rattle.std.proofs.Common.{◌≡◌, get_or, sym, subst, arith}
use Rattle.std.specs.Char.{IsAsciiDigit}
use Rattle.text_lines.proofs.Digits.{first_is_digit, one_digit}
use Rattle.text_lines.proofs.fields.field_up_to.Goals as goal

pub returns-then-not-is_ascii_digit-clause-only : goal.returns-then-not-is_ascii_digit-clause-only
returns-then-not-is_ascii_digit-clause-only c = λ n rest le e.
    let here : get_or c.args.bytes.now 0 0 ≡ c.in_ok-first.field-0.now = sym (c.in_ok-first.ensures.item.3.1 0) in
    let digit = subst IsAsciiDigit here (first_is_digit n c.args.separator c.args.bytes.now rest (omega arith) e) in
    let none = c.if-not-is_ascii_digit.ensures.cases in
    omega (arith, digit, none)

pub field_end-requires-clause-front : goal.field_end-requires-clause-front
field_end-requires-clause-front c =
    let there = c.in_ok-first.ensures.item.3 in
    rw c.from-number.ensures (one_digit c.args.bytes.now c.in_ok-first.field-0.now there.0 (sym (there.1 0)) c.if-not-is_ascii_digit.ensures.cases)

pub short_field-requires-clause-front : goal.short_field-requires-clause-front
short_field-requires-clause-front c =
    let there = c.in_ok-first.ensures.item.3 in
    rw c.from-number.ensures (one_digit c.args.bytes.now c.in_ok-first.field-0.now there.0 (sym (there.1 0)) c.if-not-is_ascii_digit.ensures.cases)
