use Rattle.std.proofs.Common.{arith}
use Rattle.spillback_world.proofs.StoreFieldLaws.{two-fields}
use Rattle.spillback_world.proofs.store_fields.two_fields.Goals as goal

pub returns : goal.returns
returns c = two-fields _ _ _ (omega (arith, c.len.ensures)) c.field.ensures c.field-2.ensures
