use Rattle.std.proofs.lemmas.Result.{on_ok_weaker}
use Rattle.net_file.proofs.LinkLaws.{yields-put, yields-none}
use Rattle.net_file.proofs.tables.put_yields.Goals as goal

pub returns-in_ok-put_texts-in-Some : goal.returns-in_ok-put_texts-in-Some
returns-in_ok-put_texts-in-Some c = on_ok_weaker c.put_number.result (yields-put _ _ c.in-Some.is c.in_ok-put_texts-in-Some.ensures) c.put_number.ensures

pub returns-in-None : goal.returns-in-None
returns-in-None c = yields-none _ _ c.in-None.is
