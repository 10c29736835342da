use Rattle.std.proofs.Common.{length, ap, arith}
use Rattle.text_lines.proofs.LineLaws.{digits-long}
use Rattle.controller_jobs.proofs.bounds_text.red_field.Goals as goal

pub put_number-requires : goal.put_number-requires
put_number-requires c = omega (arith, digits-long c.from.result c.from.type_inv, ap length c.new-field.ensures)
