use Rattle.controller_jobs.proofs.LineLaws.{line-gained}
use Rattle.controller_jobs.proofs.scale.push_scale_line.Goals as goal

pub returns : goal.returns
returns c =
    line-gained c.args.text.now.items c.push_number.new.text.items c.push_counts.new.text.items c.push_counts-2.new.text.items c.extend_from_slice.new.self.items c.from.result c.args.factor c.args.of_plans.now c.args.of_calls.now
    c.from.ensures c.in_ok-push_number.ensures c.in_ok-push_counts.ensures c.in_ok-push_counts-2.ensures c.in_ok-extend_from_slice.ensures.items
