use Rattle.std.proofs.lemmas.Result.{on_ok_weaker}
use Rattle.net_file.proofs.PhaseLaws.{phase-filled}
use Rattle.net_file.proofs.tables.DraftPhaseElement.fill.Goals as goal

pub returns : goal.returns
returns c = on_ok_weaker c.put_texts_if_any.result (phase-filled c.args.self.now c.in_ok-put_number.ensures c.in_ok-put_number-2.ensures c.in_ok-put_number-3.ensures c.in_ok-put_number-4.ensures c.in_ok-put_number-5.ensures c.in_ok-put_number-6.ensures c.in_ok-put_flag.ensures c.in_ok-put_texts.ensures) c.put_texts_if_any.ensures
