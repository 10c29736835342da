use Rattle.std.proofs.Common.{[], sym, rules, ◌∙◌}
use Rattle.std.proofs.lemmas.List.{get_or_default}
use Rattle.audit.specs.Audits.{IsGreenAt}
use Rattle.audit.proofs.Reasons.{same-rows}
use Rattle.audit.proofs.rows.first_no_next.Goals as goal

pub no_next-requires-clause-greens : goal.no_next-requires-clause-greens
no_next-requires-clause-greens c =
    same-rows IsGreenAt c.args.net.now c.args.lines.now c.loop-node.node c.plan.result.now c.as_slice.result.now c.plan.ensures.value (c.as_slice.ensures ∙ c.index-lines-node.is ∙ sym (get_or_default c.args.lines.now c.loop-node.node [] c.index-lines-node.result (search rules))) (c.requires.greens c.loop-node.node (search rules))
