use Rattle.text_lines.proofs.Digits.{one_number}
use Rattle.text_lines.proofs.fields.law_of_fields.Goals as goal

pub returns : goal.returns
returns c = one_number
