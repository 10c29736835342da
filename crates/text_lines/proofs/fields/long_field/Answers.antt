use Rattle.std.proofs.Common.{◌≡◌, ◌+◌, ◌-◌, ◌*◌, ◌<◌, get_or, refl, arith}
use Rattle.text_lines.proofs.Digits.{digit-more, goes_out, goes_past}
use Rattle.text_lines.proofs.fields.long_field.Goals as goal

pub returns-in_err-checked_mul-clause-only : goal.returns-in_err-checked_mul-clause-only
returns-in_err-checked_mul-clause-only c = λ n rest le e.
    let past = goes_past c.args.most c.loop-index.index c.loop-index.longer c.args.separator c.args.bytes.now (omega arith) c.loop-index.invariant.front c.if-not-is_ascii_digit.ensures.cases (omega arith) (omega arith) c.requires.apart n rest le e in
    absurd (c.in_err-checked_mul.ensures (omega arith))

pub returns-in_err-longer-clause-only : goal.returns-in_err-longer-clause-only
returns-in_err-longer-clause-only c = λ n rest le e.
    let past = goes_past c.args.most c.loop-index.index c.loop-index.longer c.args.separator c.args.bytes.now (omega arith) c.loop-index.invariant.front c.if-not-is_ascii_digit.ensures.cases (omega arith) (omega arith) c.requires.apart n rest le e in
    absurd (c.in_err-longer.ensures (omega (arith, c.in_ok-checked_mul.ensures)))

pub loop-index-preserved : goal.loop-index-preserved
loop-index-preserved c =
    let i = c.loop-index.index in
    let v = c.loop-index.longer in
    let byte = get_or c.args.bytes.now i 0 in
    let before = c.loop-index.invariant in
    let value : c.in_ok-longer.longer ≡ v * 10 + (byte - 48) = omega (arith, c.in_ok-longer.ensures, c.in_ok-checked_mul.ensures) in
    let fits : v * 10 + (byte - 48) < 18446744073709551616 = omega (arith, c.in_ok-longer.ensures, c.in_ok-checked_mul.ensures) in
    record {
      front = rw value (digit-more i v byte c.args.bytes.now (omega arith) before.front before.some fits c.if-not-is_ascii_digit.ensures.cases (omega arith) refl);
      some = omega arith;
      fits = rw value fits;
    }

pub returns-clause-only : goal.returns-clause-only
returns-clause-only c = λ n rest le e.
    goes_out c.args.most c.loop-index.index c.loop-index.longer c.args.separator c.args.bytes.now (omega arith) c.loop-index.invariant.front (omega arith) (omega arith) (omega arith) c.requires.apart n rest le e
