use Rattle.std.proofs.Common.{◌^◌, arith}
use Rattle.std.proofs.lemmas.Option.{IfSome_then}
use Rattle.text_lines.proofs.Units.{field_is}
use Rattle.text_lines.proofs.fields.field_u64.Goals as goal

pub returns-clause-exact : goal.returns-clause-exact
returns-clause-exact c =
    field_is (2 ^ 64) c.args.separator c.args.bytes.now c.field_up_to.result (omega arith) c.requires (IfSome_then c.field_up_to.result c.field_up_to.ensures.some (λ x p. (omega (arith, p.0), p.1)))
    (λ n rest lt e. c.field_up_to.ensures.only n rest (omega arith) e)
