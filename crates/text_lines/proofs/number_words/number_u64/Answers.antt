use Rattle.std.proofs.Common.{arith, sym, subst, ◌∙◌}
use Rattle.text_lines.proofs.Numerals.{IsPlain, not_parsed, parsed, plain}
use Rattle.text_lines.proofs.number_words.number_u64.Goals as goal

pub returns-then-not-may_be_number-clause-none : goal.returns-then-not-may_be_number-clause-none
returns-then-not-may_be_number-clause-none c n lt spelled =
    let is = subst IsPlain (sym (c.as_bytes.ensures.value ∙ spelled)) (plain n lt) in
    let test = c.may_be_number.ensures.1 (is.no_sign, is.no_zero) in
    absurd (let no = c.if-not-may_be_number.true in cc)

pub returns-clause-some : goal.returns-clause-some
returns-clause-some c =
    let test = c.may_be_number.ensures.0 c.if-not-may_be_number.false in
    parsed _ 64 c.args.word.now _ _ (omega arith) c.parse.ensures.value.0 (subst IsPlain c.as_bytes.ensures.value (record { no_sign = test.0; no_zero = test.1 })) c.ok.ensures.value

pub returns-clause-none : goal.returns-clause-none
returns-clause-none c =
    let test = c.may_be_number.ensures.0 c.if-not-may_be_number.false in
    not_parsed _ 64 c.args.word.now _ _ (omega arith) c.parse.ensures.value.0 (subst IsPlain c.as_bytes.ensures.value (record { no_sign = test.0; no_zero = test.1 })) c.ok.ensures.value
