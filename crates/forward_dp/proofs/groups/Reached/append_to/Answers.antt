use Rattle.forward_dp.proofs.Reaching.{joined}
use Rattle.forward_dp.proofs.groups.Reached.append_to.Goals as goal

pub returns-clause-joined : goal.returns-clause-joined
returns-clause-joined c =
    joined c.args.self.now c.as_slice.result.now c.as_slice-2.result.now c.args.rows.now.items c.merge.new.rows.items c.drain.new.rows.items c.as_slice.ensures.value c.as_slice-2.ensures.value c.in_ok-drain.ensures.best c.in_ok-merge.ensures
