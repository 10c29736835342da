use Rattle.std.proofs.Common.{sym}
use Rattle.csv.proofs.RecordFacts.{field-there}
use Rattle.record_text.proofs.shapes.field.Goals as goal

pub unreachable-requires : goal.unreachable-requires
unreachable-requires c = field-there _ c.args.place c.requires (sym c.in_default.ensures.value)
