use Rattle.std.proofs.Common.{arith}
use Rattle.std.proofs.lemmas.List.{drop_all}
use Rattle.text_lines.proofs.buffer.Line.clear.Goals as goal

pub returns : goal.returns
returns c = drop_all 160 c.self.inside.bytes (omega arith)
