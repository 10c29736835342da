use Rattle.std.proofs.Common.{sym, ap, subst, ◌∙◌}
use Rattle.control_flow.specs.Greens.{head_at}
use Rattle.round_states.specs.States.{IsLineAt}
use Rattle.round_decisions.proofs.LineLaws.{from-heads, from-line, part-from}
use Rattle.round_decisions.proofs.lines.rows_from.Goals as goal

pub returns-clause-value : goal.returns-clause-value
returns-clause-value c = part-from c.args.second c.first_from.result c.rows-rows.result.now c.args.line.now c.first_from.ensures.rows c.rows-rows.ensures.value

pub returns-clause-line : goal.returns-clause-line
returns-clause-line c = λ plan is.
    subst (IsLineAt plan c.args.second) (sym (part-from c.args.second c.first_from.result c.rows-rows.result.now c.args.line.now c.first_from.ensures.rows c.rows-rows.ensures.value)) (from-line plan c.args.second c.args.line.now is)

pub returns-clause-heads : goal.returns-clause-heads
returns-clause-heads c = λ plan later most.
    ap (λ rows. head_at plan rows later) (part-from c.args.second c.first_from.result c.rows-rows.result.now c.args.line.now c.first_from.ensures.rows c.rows-rows.ensures.value)
    ∙ from-heads c.args.second c.args.line.now c.rows-rows.ensures.order plan later most
