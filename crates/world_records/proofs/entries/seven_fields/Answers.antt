use Rattle.std.proofs.Common.{arith}
use Rattle.world_records.proofs.EntryLaws.{seven-fields}
use Rattle.world_records.proofs.entries.seven_fields.Goals as goal

pub returns : goal.returns
returns c = seven-fields _ _ _ _ _ _ _ _ (omega (arith, c.len.ensures)) c.field.ensures c.field-2.ensures c.field-3.ensures c.field-4.ensures c.field-5.ensures c.field-6.ensures c.field-7.ensures
