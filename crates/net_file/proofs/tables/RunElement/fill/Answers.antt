use Rattle.std.proofs.lemmas.Result.{on_ok_weaker}
use Rattle.net_file.proofs.RunLaws.{run-filled}
use Rattle.net_file.proofs.tables.RunElement.fill.Goals as goal

pub returns : goal.returns
returns c = on_ok_weaker c.put_number_if-5.result (run-filled c.args.self.now c.in_ok-put_number.ensures c.in_ok-put_number-2.ensures c.in_ok-put_number-3.ensures c.in_ok-put_number-4.ensures c.in_ok-put_flag_if_true.ensures c.in_ok-put_number_if.ensures c.in_ok-put_number_if-2.ensures c.in_ok-put_number_if-3.ensures c.in_ok-put_number_if-4.ensures) c.put_number_if-5.ensures
