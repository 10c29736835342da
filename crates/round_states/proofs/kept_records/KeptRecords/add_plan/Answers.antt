use Rattle.std.proofs.lemmas.Result.{on_ok_weaker}
use Rattle.round_states.proofs.KeptLaws.{keeps-plan}
use Rattle.round_states.proofs.kept_records.KeptRecords.add_plan.Goals as goal

pub returns : goal.returns
returns c = on_ok_weaker c.push.result (λ more. keeps-plan c.args.self.now c.push.new.self more) c.push.ensures
