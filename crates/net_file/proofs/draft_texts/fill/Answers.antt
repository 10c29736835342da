use Rattle.std.proofs.lemmas.Result.{on_ok_weaker}
use Rattle.net_file.proofs.TopLaws.{top-filled}
use Rattle.net_file.proofs.draft_texts.fill.Goals as goal

pub returns : goal.returns
returns c = on_ok_weaker c.put_tables_if_any.result (top-filled c.args.version c.args.draft.now c.requires.known c.requires.says c.in_ok-put_number.ensures c.in_ok-put_table.ensures c.in_ok-put_tables.ensures c.in_ok-put_tables-2.ensures) c.put_tables_if_any.ensures
