use Rattle.std.proofs.lemmas.Result.{on_ok_weaker}
use Rattle.net_file.proofs.ItemLaws.{if-any, not-empty}
use Rattle.net_file.proofs.tables.put_texts_if_any.Goals as goal

pub returns-else-is_empty : goal.returns-else-is_empty
returns-else-is_empty c = on_ok_weaker c.put_texts.result (if-any (not-empty _ _ c.as_slice.ensures c.is_empty.ensures c.if-is_empty.false)) c.put_texts.ensures
