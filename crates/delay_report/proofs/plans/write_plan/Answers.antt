use Rattle.intersection_actor.proofs.UsedLinks.{used-exist}
use Rattle.delay_report.proofs.plans.write_plan.Goals as goal

pub used_text-requires : goal.used_text-requires
used_text-requires c = rw c.as_slice.ensures (used-exist c.args.net.now c.node_name.ensures.network c.args.plan.now.node c.args.plan.now.used c.requires.used)
