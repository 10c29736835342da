use Rattle.histories.proofs.StepLaws.{links-few, count-both}
use Rattle.histories.proofs.steps.step_count.Goals as goal

pub joined_count-requires-clause-few : goal.joined_count-requires-clause-few
joined_count-requires-clause-few c = links-few c.args.net.now c.entry_links.result.now c.entry_links.ensures.network c.entry_links.ensures.links.rising (λ k d inside. (c.entry_links.ensures.links.have k d inside).0)

pub joined_count-requires-2-clause-few : goal.joined_count-requires-2-clause-few
joined_count-requires-2-clause-few c = links-few c.args.net.now c.exit_links.result.now c.exit_links.ensures.network c.exit_links.ensures.links.rising (λ k d inside. (c.exit_links.ensures.links.have k d inside).0)

pub returns-clause-value : goal.returns-clause-value
returns-clause-value c = count-both c.args.net.now c.args.node c.joined_count.result c.joined_count-2.result c.entry_links.result.now c.exit_links.result.now c.entry_links.ensures.value c.exit_links.ensures.value c.joined_count.ensures c.joined_count-2.ensures
