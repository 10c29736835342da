use Rattle.std.proofs.Common.{arith}
use Rattle.round_states.proofs.FieldLaws.{five-fields}
use Rattle.round_states.proofs.fields.five_fields.Goals as goal

pub returns : goal.returns
returns c = five-fields _ _ _ _ _ _ (omega (arith, c.len.ensures)) c.field.ensures c.field-2.ensures c.field-3.ensures c.field-4.ensures c.field-5.ensures
