use Rattle.std.proofs.Common.{arith}
use Rattle.std.proofs.lemmas.Result.{on_ok_weaker}
use Rattle.round_states.proofs.KeptLaws.{keeps-version}
use Rattle.round_states.proofs.kept_records.KeptRecords.add_version.Goals as goal

pub returns : goal.returns
returns c = on_ok_weaker c.push.result (λ more. keeps-version c.args.net.now c.law_of_network.ensures c.args.self.now c.push.new.self c.args.link c.requires.link c.requires.from c.requires.to c.args.version (omega arith) more) c.push.ensures
