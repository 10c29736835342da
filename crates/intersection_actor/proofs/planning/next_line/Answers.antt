use Rattle.std.proofs.Common.{◌≤◌, ◌+◌, All, arith}
use Rattle.switch_rules.specs.declared.Served.{Served}
use Rattle.intersection_actor.proofs.LineLaws.{next-line}
use Rattle.intersection_actor.proofs.planning.next_line.Goals as goal

pub returns-in-Plan-clause-next : goal.returns-in-Plan-clause-next
returns-in-Plan-clause-next c =
    let since : c.args.head.now.since ≤ 100000 = omega (arith, c.requires.head.begun, c.requires.reach) in
    let until : c.args.until + 20 ≤ 100000 = omega (arith, c.requires.until) in
    let greens : All (λ (s : Served). s.green ≤ 100000) c.as_slice.result.now = rw c.as_slice.ensures c.requires.greens in
    next-line c.args.plan.now c.args.head.now c.args.until c.timeline.result c.timeline.ensures.lawful c.timeline.ensures.begin (c.timeline.ensures.begins_by 100000 since until greens) c.timeline.ensures.end

pub returns-in-NoPlan-clause-next : goal.returns-in-NoPlan-clause-next
returns-in-NoPlan-clause-next c =
    let since : c.args.head.now.since ≤ 100000 = omega (arith, c.requires.head.begun, c.requires.reach) in
    let until : c.args.until + 20 ≤ 100000 = omega (arith, c.requires.until) in
    next-line c.args.plan.now c.args.head.now c.args.until c.rotation.result c.rotation.ensures.lawful c.rotation.ensures.begin (c.rotation.ensures.begins_by 100000 since until) c.rotation.ensures.end
