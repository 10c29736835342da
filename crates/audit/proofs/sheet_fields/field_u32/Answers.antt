use Rattle.std.proofs.Common.{arith, rules}
use Rattle.audit.proofs.SheetFieldLaws.{no-text, number-read}
use Rattle.audit.proofs.sheet_fields.field_u32.Goals as goal

pub returns-in-Ok : goal.returns-in-Ok
returns-in-Ok c = number-read 32 c.args.field.now c.number_u32.result (omega arith) (search rules) (rw c.in-Ok.ensures.cases.0 at c.number_u32.ensures.some) (rw c.in-Ok.ensures.cases.0 at c.number_u32.ensures.none)

pub returns-in-Err : goal.returns-in-Err
returns-in-Err c = no-text 32 c.args.field.now (omega arith) c.in-Err.ensures.cases.0
