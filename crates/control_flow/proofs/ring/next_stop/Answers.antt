use Rattle.std.proofs.Common.{sym, ◌∙◌}
use Rattle.control_flow.proofs.TurningLaws.{first-uncalled, next-below}
use Rattle.control_flow.proofs.ring.next_stop.Goals as goal

pub returns-then-is_empty-clause-value : goal.returns-then-is_empty-clause-value
returns-then-is_empty-clause-value c = c.next.ensures.value ∙ first-uncalled c.args.plan.now c.args.calls.now c.args.s (sym c.is_empty.ensures ∙ c.if-is_empty.true)

pub returns-clause-bounds : goal.returns-clause-bounds
returns-clause-bounds c = next-below c.args.plan.now c.args.calls.now c.args.s c.first_up.result c.requires.ring c.requires.phase c.first_up.ensures
