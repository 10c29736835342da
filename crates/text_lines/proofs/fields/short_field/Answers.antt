use Rattle.std.proofs.Common.{◌+◌, ◌-◌, ◌*◌, ◌^◌, ◌<◌, get_or, refl, arith}
use Rattle.text_lines.proofs.Digits.{digit-more, fits, short, short-fits}
use Rattle.text_lines.proofs.fields.short_field.Goals as goal

pub overflow_mul-number : goal.overflow_mul-number
overflow_mul-number c =
    omega (arith, short-fits c.loop-index.index c.loop-index.number (get_or c.args.bytes.now c.loop-index.index 0) (omega arith) c.if-not-is_ascii_digit.ensures.cases c.loop-index.invariant.short)

pub overflow_add-number : goal.overflow_add-number
overflow_add-number c =
    omega (arith, short-fits c.loop-index.index c.loop-index.number (get_or c.args.bytes.now c.loop-index.index 0) (omega arith) c.if-not-is_ascii_digit.ensures.cases c.loop-index.invariant.short)

pub loop-index-preserved : goal.loop-index-preserved
loop-index-preserved c =
    let i = c.loop-index.index in
    let v = c.loop-index.number in
    let byte = get_or c.args.bytes.now i 0 in
    let digit = c.if-not-is_ascii_digit.ensures.cases in
    let before = c.loop-index.invariant in
    let more : v * 10 + (byte - 48) < 10 ^ (i + 1) = short i v byte digit before.short in
    let small = fits (i + 1) (v * 10 + (byte - 48)) (omega arith) more in
    record {
      front = rw c.from.ensures (digit-more i v byte c.args.bytes.now (omega arith) before.front before.some (omega arith) digit (omega arith) refl);
      some = omega arith;
      short = rw c.from.ensures more;
    }
