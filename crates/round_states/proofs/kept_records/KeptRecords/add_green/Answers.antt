use Rattle.std.proofs.Common.{arith}
use Rattle.std.proofs.lemmas.Result.{on_ok_weaker}
use Rattle.round_states.proofs.KeptLaws.{keeps-green}
use Rattle.round_states.proofs.kept_records.KeptRecords.add_green.Goals as goal

pub returns : goal.returns
returns c = on_ok_weaker c.push.result (λ more. keeps-green c.args.net.now c.law_of_network.ensures c.args.self.now c.push.new.self c.args.node c.args.green c.requires (omega arith) (omega arith) (omega arith) more) c.push.ensures
