use Rattle.std.proofs.Common.{◌≡◌, ◌+◌, ◌∙◌, List, Some, length, ap, subst, sym, arith}
use Rattle.phase_plan.specs.Phases.{IsRing}
use Rattle.phase_plan.specs.declared.Phase.{Phase}
use Rattle.schedule_meaning.specs.Instances.{Problem}
use Rattle.switch_rules.specs.Serving.{IsHead}
use Rattle.control_flow.specs.Greens.{GoesOn, head_at}
use Rattle.net_parts.specs.Outline.{plan_at}
use Rattle.net_parts.specs.declared.drafts.Run.{Run}
use Rattle.intersection_actor.proofs.PlanLaws.{plan-soon, planned-made}
use Rattle.intersection_actor.proofs.RecallLaws.{head-round, length-round, plan-round}
use Rattle.intersection_actor.proofs.planning.plan_round.Goals as goal

pub problem-requires-clause-head : goal.problem-requires-clause-head
problem-requires-clause-head g c =
    let own : IsHead (plan_at c.args.net.now c.args.node) c.head_at-head.result = subst (λ (ps : List Phase). IsHead ps c.head_at-head.result) c.plan-own.ensures.value c.head_at-head.ensures.head in
    rw c.in_ok-plan.ensures (head-round c.args.net.now c.args.node c.args.sensed.now c.head_at-head.result own)

pub problem-requires-clause-lists : goal.problem-requires-clause-lists
problem-requires-clause-lists g c =
    c.in_ok-window.ensures.of_node.count ∙ sym (ap (λ (ps : List Phase). length ps) c.in_ok-plan.ensures ∙ length-round c.args.net.now c.args.node c.args.sensed.now)

pub schedule_line-requires-clause-reach : goal.schedule_line-requires-clause-reach
schedule_line-requires-clause-reach g c =
    rw c.in_ok-instance.ensures (c.head_at-head.ensures.begins_by 100000 (omega (arith, c.requires.sensed.now)) c.requires.begins)

pub schedule_line-requires-clause-law : goal.schedule_line-requires-clause-law
schedule_line-requires-clause-law g c s scheduled =
    let own : IsHead (plan_at c.args.net.now c.args.node) c.head_at-head.result = subst (λ (ps : List Phase). IsHead ps c.head_at-head.result) c.plan-own.ensures.value c.head_at-head.ensures.head in
    let plan : IsRing c.in_ok-plan.plan = subst IsRing (sym c.in_ok-plan.ensures) (plan-round c.args.net.now c.args.node c.args.sensed.now (subst IsRing c.plan-own.ensures.value c.count.ensures.ring)) in
    let head : IsHead c.in_ok-plan.plan c.head_at-head.result = rw c.in_ok-plan.ensures (head-round c.args.net.now c.args.node c.args.sensed.now c.head_at-head.result own) in
    plan-soon c.args.net.now c.args.node c.args.sensed.now c.args.heard.now c.in_ok-plan.plan c.head_at-head.result c.in_ok-window.window c.in_ok-instance.instance s
    plan c.in_ok-plan.ensures c.in_ok-window.ensures c.in_ok-instance.ensures scheduled
    head (omega (arith, c.requires.sensed.now, c.plan-own.ensures.network.outline.run.look.1))

pub returns : goal.returns
returns g c =
    let made = c.in_ok-schedule in
    let net = c.args.net.now in
    let head = c.head_at-head.result in
    let goes : GoesOn head made.next = subst (λ (q : Problem). GoesOn q.head made.next) c.in_ok-instance.ensures made.ensures.next.goes_on in
    planned-made net c.args.node c.args.line.now c.args.sensed.now c.args.heard.now c.in_ok-plan.plan (c.args.sensed.now.now + c.run.result.look) head
    (record { window = c.in_ok-window.window; instance = c.in_ok-instance.instance; schedule = made.schedule; next = made.next; used = c.from_vec.result })
    c.in_ok-plan.ensures (ap (λ (r : Run). c.args.sensed.now.now + r.look) c.run.ensures.value)
    (subst (λ (ps : List Phase). head_at ps c.args.line.now c.args.sensed.now.now ≡ Some head) c.plan-own.ensures.value c.head_at-head.ensures.value)
    (c.head_at-head.ensures.joins made.next goes) c.in_ok-window.ensures c.in_ok-instance.ensures made.ensures
    (c.from_vec.ensures ∙ c.in_ok-used.ensures)
