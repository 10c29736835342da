use Rattle.std.proofs.lemmas.Result.{on_ok_weaker}
use Rattle.net_file.proofs.TableLaws.{conflict-filled}
use Rattle.net_file.proofs.tables.DraftConflictElement.fill.Goals as goal

pub returns : goal.returns
returns c = on_ok_weaker c.put_text-2.result (conflict-filled c.args.self.now c.in_ok-put_text.ensures) c.put_text-2.ensures
