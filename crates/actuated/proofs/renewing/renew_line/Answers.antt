use Rattle.std.proofs.Common.{◌≡◌, ◌+◌, ℕ, List, Some, sym, ap, subst, ◌∙◌, arith}
use Rattle.control_flow.specs.Greens.{IsLawful, head_at}
use Rattle.net_parts.specs.declared.drafts.Run.{Run}
use Rattle.net_parts.specs.Outline.{plan_at}
use Rattle.phase_plan.specs.declared.Phase.{Phase}
use Rattle.signal_safety.proofs.Lines.{plan-is}
use Rattle.actuated.specs.Calls.{act_line}
use Rattle.actuated.proofs.ActStepLaws.{act-rounds}
use Rattle.actuated.proofs.LineLaws.{renewed}
use Rattle.actuated.proofs.renewing.renew_line.Goals as goal

pub returns : goal.returns
returns c =
    let net = c.args.net.now in
    let node : ℕ = c.args.node in
    let s : ℕ = c.args.now in
    let old = c.args.line.now in
    let next = c.in_ok-next.next in
    let head = c.head_at-head.result in
    let calls = c.args.calls.now in
    let until : ℕ = s + c.run.result.look in
    let plan : c.plan-plan.result.now ≡ plan_at net node = c.plan-plan.ensures.value in
    let bounds = c.plan-plan.ensures.network.outline.run in
    let look : c.run.result.look ≡ net.run.look = ap (λ (r : Run). r.look) c.run.ensures.value in
    let at : head_at (plan_at net node) old s ≡ Some head = ap (λ (p : List Phase). head_at p old s) (sym plan) ∙ c.head_at-head.ensures.value in
    let reach = c.head_at-head.ensures.begins_by 100000 (omega (arith, c.requires.now)) c.requires.ready.begins in
    let lawful : IsLawful (plan_at net node) next = subst (λ (p : List Phase). IsLawful p next) plan c.in_ok-next.ensures.lawful in
    renewed net s node old next c.splice.new.self head calls until (omega (arith, bounds.within, (act-rounds net c.plan-plan.ensures.network).within)) at
    (c.in_ok-next.ensures.value ∙ ap (λ (p : List Phase). act_line p head calls until) plan)
    (ap (λ n. s + n) look)
    c.in_ok-splice.ensures.ok
    (c.in_ok-splice.ensures.law (plan_at net node) s head (plan-is net c.plan-plan.ensures.network node c.requires.node) c.requires.ready.lawful at lawful c.in_ok-next.ensures.begin)
    c.requires.ready.begins
    (c.in_ok-next.ensures.begins_by 100000 (omega (arith, reach, c.head_at-head.ensures.head.begun)) (omega (arith, c.requires.now, look, bounds.look)))
    c.in_ok-next.ensures.end
