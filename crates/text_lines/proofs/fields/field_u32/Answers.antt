use Rattle.std.proofs.Common.{◌^◌, None, Some, arith}
use Rattle.text_lines.proofs.Units.{field_is}
use Rattle.text_lines.proofs.fields.field_u32.Goals as goal

pub returns-in_err-number-clause-exact : goal.returns-in_err-number-clause-exact
returns-in_err-number-clause-exact c =
    rw c.from_residual.ensures (field_is (2 ^ 32) c.args.separator c.args.bytes.now None (omega arith) c.requires tt (λ n rest lt e. c.in_err-number.ensures.only n rest (omega arith) e))

pub returns-clause-exact : goal.returns-clause-exact
returns-clause-exact c =
    let some = c.in_ok-number.ensures.some in
    field_is (2 ^ 32) c.args.separator c.args.bytes.now (Some (c.in_ok-number.number, c.in_ok-number.rest)) (omega arith) c.requires (omega arith, some.1) (λ n rest lt e. c.in_ok-number.ensures.only n rest (omega arith) e)
