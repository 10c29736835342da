use Rattle.std.proofs.Common.{◌≡◌, ◌∙◌, ap, length, arith}
use Rattle.std.specs.Prelude.{None}
use Rattle.net_parts.specs.Outline.{plan_at}
use Rattle.clusters.specs.Steps.{ArePlatoonsAsked}
use Rattle.clusters.proofs.AskedLaws.{plain-are, plain-sound}
use Rattle.clusters.proofs.PlatoonLaws.{phases-clusters, phases-more, phases-node, phases-rising}
use Rattle.clusters.proofs.node_platoons.platoons.Goals as goal

pub loop-phase-preserved : goal.loop-phase-preserved
loop-phase-preserved c =
    phases-more (λ k. ArePlatoonsAsked None 0 None c.args.net.now c.args.node k c.args.sensed.now c.args.heard.now) c.loop-phase.lists.items c.push.new.self.items c.from_vec.result c.loop-phase.phase c.loop-phase.invariant
    (rw c.from_vec.ensures c.in_ok-list.ensures) c.in_ok-push.ensures.items

pub returns-clause-platoons : goal.returns-clause-platoons
returns-clause-platoons c =
    let all : c.loop-phase.phase ≡ length (plan_at c.args.net.now c.args.node) = omega (arith, ap length c.plan-2.ensures.value) in
    plain-are c.args.net.now c.args.node c.args.sensed.now c.args.heard.now c.loop-phase.lists.items c.loop-phase.phase c.loop-phase.invariant all

pub returns-clause-node : goal.returns-clause-node
returns-clause-node c =
    let all : c.loop-phase.phase ≡ length (plan_at c.args.net.now c.args.node) = omega (arith, ap length c.plan-2.ensures.value) in
    phases-node c.args.net.now c.args.node c.args.sensed.now.now c.loop-phase.lists.items (c.loop-phase.invariant.count ∙ all)
    (plain-sound c.args.net.now c.args.node c.args.sensed.now c.args.heard.now c.loop-phase.lists.items c.loop-phase.phase c.plan.ensures.network c.requires.sensed.now c.requires.node c.loop-phase.invariant all)

pub returns-clause-clusters : goal.returns-clause-clusters
returns-clause-clusters c =
    let all : c.loop-phase.phase ≡ length (plan_at c.args.net.now c.args.node) = omega (arith, ap length c.plan-2.ensures.value) in
    phases-clusters c.args.net.now c.args.node c.args.sensed.now.now c.loop-phase.lists.items
    (plain-sound c.args.net.now c.args.node c.args.sensed.now c.args.heard.now c.loop-phase.lists.items c.loop-phase.phase c.plan.ensures.network c.requires.sensed.now c.requires.node c.loop-phase.invariant all)

pub returns-clause-rising : goal.returns-clause-rising
returns-clause-rising c =
    let all : c.loop-phase.phase ≡ length (plan_at c.args.net.now c.args.node) = omega (arith, ap length c.plan-2.ensures.value) in
    phases-rising c.args.net.now c.args.node c.args.sensed.now.now c.loop-phase.lists.items
    (plain-sound c.args.net.now c.args.node c.args.sensed.now c.args.heard.now c.loop-phase.lists.items c.loop-phase.phase c.plan.ensures.network c.requires.sensed.now c.requires.node c.loop-phase.invariant all)
