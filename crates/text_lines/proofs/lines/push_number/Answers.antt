use Rattle.std.proofs.Common.{length, ap, arith}
use Rattle.std.proofs.lemmas.Fmt.{length-decimal-le}
use Rattle.text_lines.proofs.lines.push_number.Goals as goal

pub put_number-requires : goal.put_number-requires
put_number-requires c = omega (arith, length-decimal-le 20 c.args.number (omega arith) (omega arith) (omega arith), ap length c.new-line.ensures)
