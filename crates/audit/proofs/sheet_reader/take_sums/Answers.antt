use Rattle.std.proofs.Common.{refl, sym, ◌∙◌}
use Rattle.audit.proofs.SheetReaderLaws.{come-sums, is_none-from}
use Rattle.audit.proofs.sheet_reader.take_sums.Goals as goal

pub returns-clause-ok : goal.returns-clause-ok
returns-clause-ok c = λ net parsed come. come-sums net parsed c.args.reader.now come c.args.totals _ (is_none-from c.args.reader.now.totals (sym c.is_some.ensures ∙ c.if-is_some.false)) refl refl refl
