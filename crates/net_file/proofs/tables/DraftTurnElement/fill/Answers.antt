use Rattle.std.proofs.lemmas.Result.{on_ok_weaker}
use Rattle.net_file.proofs.TableLaws.{turn-filled}
use Rattle.net_file.proofs.tables.DraftTurnElement.fill.Goals as goal

pub returns : goal.returns
returns c = on_ok_weaker c.put_number.result (turn-filled c.args.self.now c.in_ok-put_text.ensures) c.put_number.ensures
