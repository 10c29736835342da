use Rattle.std.proofs.lemmas.Result.{on_ok_weaker}
use Rattle.net_file.proofs.LinkLaws.{link-filled}
use Rattle.net_file.proofs.tables.DraftLinkElement.fill.Goals as goal

pub returns : goal.returns
returns c = on_ok_weaker c.put_tables_if_any.result (link-filled c.args.self.now c.in_ok-put_text.ensures c.in_ok-put_text_if.ensures c.in_ok-put_text_if-2.ensures c.in_ok-put_number.ensures c.in_ok-put_number-2.ensures c.in_ok-put_number-3.ensures c.in_ok-put_yields.ensures c.in_ok-put_walk.ensures) c.put_tables_if_any.ensures
