use Rattle.std.proofs.Common.{arith}
use Rattle.fixed_plans.proofs.FieldLaws.{four-fields}
use Rattle.fixed_plans.proofs.fields.four_fields.Goals as goal

pub returns : goal.returns
returns c = four-fields _ _ _ _ _ (omega (arith, c.len.ensures)) c.field.ensures c.field-2.ensures c.field-3.ensures c.field-4.ensures
