use Rattle.std.proofs.Common.{arith}
use Rattle.std.proofs.lemmas.Result.{on_ok_weaker}
use Rattle.round_states.proofs.KeptLaws.{keeps-row}
use Rattle.round_states.proofs.kept_records.KeptRecords.add_row.Goals as goal

pub returns : goal.returns
returns c = on_ok_weaker c.push.result (λ more. keeps-row c.args.net.now c.law_of_network.ensures c.args.self.now c.push.new.self c.args.link c.requires.link c.requires.from c.requires.to c.args.row (omega arith) (omega arith) more) c.push.ensures
