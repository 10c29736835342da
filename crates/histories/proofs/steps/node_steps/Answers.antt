use Rattle.std.proofs.Common.{ap, length, arith}
use Rattle.histories.proofs.StepLaws.{steps-both, steps-few}
use Rattle.histories.proofs.steps.node_steps.Goals as goal

pub returns-clause-value : goal.returns-clause-value
returns-clause-value c =
    steps-both c.args.net.now c.args.node _ _ _ _ _ c.new-steps.ensures.items c.entry_links.ensures.value c.exit_links.ensures.value c.in_ok-push_steps.ensures c.in_ok-push_steps-2.ensures

pub returns-clause-few : goal.returns-clause-few
returns-clause-few c =
    omega (arith, ap length (returns-clause-value c), c.push_steps-2.new.steps.ok, steps-few c.args.net.now c.args.node c.entry_links.ensures.network c.entry_links.ensures.apart)
