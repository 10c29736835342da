use Rattle.forward_dp.proofs.Wholes.{taken-all}
use Rattle.forward_dp.proofs.certifying.answer_of_rows.Goals as goal

pub returns-clause-taken : goal.returns-clause-taken
returns-clause-taken c gone held = taken-all c.take-2.new.self gone c.args.rows.now c.as_slice.result.now c.as_slice-2.result.now c.as_slice.ensures.value c.as_slice-2.ensures.value (c.in_ok-take-2.ensures.taken _ (c.in_ok-take.ensures.taken _ held))
