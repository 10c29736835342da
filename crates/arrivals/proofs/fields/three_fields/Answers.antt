use Rattle.std.proofs.Common.{arith}
use Rattle.arrivals.proofs.FieldLaws.{three-fields}
use Rattle.arrivals.proofs.fields.three_fields.Goals as goal

pub returns : goal.returns
returns c = three-fields _ _ _ _ (omega (arith, c.len.ensures)) c.field.ensures c.field-2.ensures c.field-3.ensures
