use Rattle.std.proofs.Common.{◌∙◌}
use Rattle.audit.proofs.SheetFieldLaws.{byte-none, byte-read}
use Rattle.audit.proofs.sheet_fields.byte_of.Goals as goal

pub returns-in_err-number : goal.returns-in_err-number
returns-in_err-number c = c.from_residual.ensures ∙ byte-none c.args.word.now c.in_err-number.ensures.none

pub returns : goal.returns
returns c = byte-read c.args.word.now c.in_ok-number.number c.in_ok-number.ensures.some
