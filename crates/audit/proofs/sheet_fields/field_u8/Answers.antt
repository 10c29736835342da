use Rattle.std.proofs.Common.{arith}
use Rattle.audit.proofs.SheetFieldLaws.{no-text}
use Rattle.audit.proofs.sheet_fields.field_u8.Goals as goal

pub returns-in-Err : goal.returns-in-Err
returns-in-Err c = no-text 8 c.args.field.now (omega arith) c.in-Err.ensures.cases.0
