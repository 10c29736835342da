use Rattle.std.proofs.Common.{◌≡◌, ◌<◌, List, [], length, get_or, ap, sym, subst, ◌∙◌, arith}
use Rattle.std.proofs.lemmas.List.{get_or_default}
use Rattle.control_flow.specs.declared.greens.Green.{Green}
use Rattle.intersection_actor.specs.declared.records.PlanRecord.{PlanRecord}
use Rattle.round_decisions.specs.Promises.{decided_line}
use Rattle.round_states.specs.NextTexts.{Keeps}
use Rattle.round_states.proofs.KeptLaws.{keeps-each, keeps-every, keeps-none}
use Rattle.round_decisions.specs.DecisionTexts.{IsPlanOf, turn_records}
use Rattle.round_decisions.proofs.kept_decisions.keep_turns.Goals as goal

pub loop-plan-init : goal.loop-plan-init
loop-plan-init c = keeps-none c.args.net.now c.args.kept.now

pub loop-plan-preserved : goal.loop-plan-preserved
loop-plan-preserved c =
    let plans = c.args.decision.now.plans in
    let plan : PlanRecord = c.plan-item.result in
    let inside : c.loop-plan.plan-index < length plans = subst (λ (l : List PlanRecord). c.loop-plan.plan-index < length l) c.as_slice-plan-items.ensures c.loop-plan-test.true in
    let at : plan ≡ get_or plans c.loop-plan.plan-index plan = c.plan-item.is ∙ ap (λ (l : List PlanRecord). get_or l c.loop-plan.plan-index plan) c.as_slice-plan-items.ensures in
    let is : IsPlanOf c.args.net.now plan = subst (IsPlanOf c.args.net.now) (sym at) (c.requires.plans c.loop-plan.plan-index plan inside) in
    let line : c.index-as_slice-plan.result ≡ decided_line c.args.decision.now plan.node =
    c.index-as_slice-plan.is ∙ ap (λ (l : List (List Green)). get_or l plan.node c.index-as_slice-plan.result) c.as_slice.ensures ∙ get_or_default c.args.decision.now.lines plan.node c.index-as_slice-plan.result [] (omega (arith, is.node, c.requires.lines)) in
    keeps-each c.args.net.now (λ (p : PlanRecord). turn_records c.args.net.now c.args.second p (decided_line c.args.decision.now p.node)) plans c.loop-plan.plan-index plan c.args.kept.now c.loop-plan.kept c.keep_turn.new.kept inside at c.loop-plan.invariant
    (subst (λ (l : List Green). Keeps c.args.net.now c.loop-plan.kept c.keep_turn.new.kept (turn_records c.args.net.now c.args.second plan l)) line c.in_ok-keep_turn.ensures)

pub returns : goal.returns
returns c =
    keeps-every c.args.net.now (λ (p : PlanRecord). turn_records c.args.net.now c.args.second p (decided_line c.args.decision.now p.node)) c.args.decision.now.plans c.loop-plan.plan-index c.args.kept.now c.loop-plan.kept
    (omega (arith, c.loop-plan-test.false, ap length c.as_slice-plan-items.ensures)) c.loop-plan.invariant
