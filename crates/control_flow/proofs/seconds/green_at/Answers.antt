use Rattle.std.proofs.Common.{sym, ◌∙◌}
use Rattle.control_flow.proofs.OrderLaws.{green-begun, green-early, green-none}
use Rattle.control_flow.proofs.seconds.green_at.Goals as goal

pub returns-in_default-clause-value : goal.returns-in_default-clause-value
returns-in_default-clause-value c = green-none c.args.line.now c.args.second c.row_after.ensures.order (sym c.row_after.ensures.value ∙ c.in_default.is)

pub returns-then-row-second-clause-value : goal.returns-then-row-second-clause-value
returns-then-row-second-clause-value c =
    green-begun c.args.line.now c.args.second c.in-Some.row c.row_after.ensures.order (sym c.row_after.ensures.value ∙ c.in-Some.is) c.if-row-second.true

pub returns-else-row-second-clause-value : goal.returns-else-row-second-clause-value
returns-else-row-second-clause-value c =
    green-early c.args.line.now c.args.second c.in-Some.row c.row_after.ensures.order (sym c.row_after.ensures.value ∙ c.in-Some.is) c.if-row-second.false
