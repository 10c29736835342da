use Rattle.std.proofs.Common.{◌≡◌, List, ◌++◌, sym, ap, subst, ◌∙◌, arith}
use Rattle.control_flow.specs.declared.greens.Green.{Green}
use Rattle.control_flow.specs.Greens.{BeginBy}
use Rattle.control_flow.specs.Timelines.{stops_at, turned}
use Rattle.control_flow.proofs.ApartLaws.{are-apart}
use Rattle.control_flow.proofs.OrderLaws.{order-lawful}
use Rattle.control_flow.proofs.TurningLaws.{IsLineFrom, passes-called, turned-by, turned-line}
use Rattle.control_flow.proofs.timelines.rotation_by_calls.Goals as goal

made : (c : goal.In_ok-turn) → c.turn.new.rows.items ≡ turned c.args.plan.now (stops_at c.args.plan.now c.args.calls.now) c.args.head.now c.args.to c.args.until
made c = c.in_ok-turn.ensures ∙ ap (λ (rows : List Green). rows ++ turned c.args.plan.now (stops_at c.args.plan.now c.args.calls.now) c.args.head.now c.args.to c.args.until) c.in_ok-rows.ensures.items

line : (c : goal.In_ok-turn) → IsLineFrom c.args.plan.now c.args.head.now c.args.until c.turn.new.rows.items
line c =
    let plan = c.args.plan.now in
    let head = c.args.head.now in
    subst (IsLineFrom plan head c.args.until) (sym (made c))
    (turned-line plan (stops_at plan c.args.calls.now) c.law_of_rings.ensures (passes-called plan c.args.calls.now) head c.args.to c.args.until c.requires.head c.requires.reach
    (omega (arith, c.requires.earliest)) c.requires.latest (omega (arith, c.requires.earliest)))

pub from_rows-requires : goal.from_rows-requires
from_rows-requires c = order-lawful c.args.plan.now _ c.law_of_rings.ensures (line c).lawful

value : (c : goal.After-from_rows) → c.from_rows.result ≡ turned c.args.plan.now (stops_at c.args.plan.now c.args.calls.now) c.args.head.now c.args.to c.args.until
value c =
    c.from_rows.ensures ∙ c.in_ok-turn.ensures
    ∙ ap (λ (rows : List Green). rows ++ turned c.args.plan.now (stops_at c.args.plan.now c.args.calls.now) c.args.head.now c.args.to c.args.until) c.in_ok-rows.ensures.items

of-head : (c : goal.After-from_rows) → IsLineFrom c.args.plan.now c.args.head.now c.args.until c.from_rows.result
of-head c =
    let plan = c.args.plan.now in
    let head = c.args.head.now in
    subst (IsLineFrom plan head c.args.until) (sym (value c))
    (turned-line plan (stops_at plan c.args.calls.now) c.law_of_rings.ensures (passes-called plan c.args.calls.now) head c.args.to c.args.until c.requires.head c.requires.reach
    (omega (arith, c.requires.earliest)) c.requires.latest (omega (arith, c.requires.earliest)))

pub returns-clause-value : goal.returns-clause-value
returns-clause-value c = value c

pub returns-clause-lawful : goal.returns-clause-lawful
returns-clause-lawful c = (of-head c).lawful

pub returns-clause-begin : goal.returns-clause-begin
returns-clause-begin c = (of-head c).begin

pub returns-clause-end : goal.returns-clause-end
returns-clause-end c = (of-head c).end

pub returns-clause-begins_by : goal.returns-clause-begins_by
returns-clause-begins_by c = λ n since last.
    let plan = c.args.plan.now in
    subst (BeginBy n) (sym (value c)) (turned-by plan (stops_at plan c.args.calls.now) c.law_of_rings.ensures (passes-called plan c.args.calls.now) c.args.head.now c.args.to c.args.until n c.requires.head.phase since last)

pub returns-clause-apart : goal.returns-clause-apart
returns-clause-apart c = are-apart c.args.plan.now _ c.law_of_rings.ensures (of-head c).lawful
