use Rattle.std.proofs.Common.{◌≡◌, ap, length, arith}
use Rattle.net_parts.specs.Outline.{phase_links_at, plan_at}
use Rattle.clusters.specs.Platoons.{streams_of}
use Rattle.clusters.specs.Options.{AreExpectedIn}
use Rattle.clusters.proofs.AskedLaws.{expected-are, expected-clusters, expected-node, expected-rising}
use Rattle.clusters.proofs.PlatoonLaws.{phases-more}
use Rattle.clusters.proofs.node_platoons.expected_platoons.Goals as goal

pub loop-phase-preserved : goal.loop-phase-preserved
loop-phase-preserved c =
    phases-more (λ k. AreExpectedIn c.args.net.now c.args.node c.args.head.now c.args.sensed.now k (streams_of c.args.net.now c.args.sensed.now c.args.heard.now (phase_links_at c.args.net.now c.args.node k)))
    c.loop-phase.lists.items c.push.new.self.items c.from_vec.result c.loop-phase.phase c.loop-phase.invariant
    (rw c.from_vec.ensures c.in_ok-list.ensures) c.in_ok-push.ensures.items

pub returns-clause-platoons : goal.returns-clause-platoons
returns-clause-platoons c =
    let all : c.loop-phase.phase ≡ length (plan_at c.args.net.now c.args.node) = omega (arith, ap length c.plan-2.ensures.value) in
    expected-are c.args.net.now c.args.node c.args.head.now c.args.sensed.now c.args.heard.now c.loop-phase.lists.items c.loop-phase.phase c.loop-phase.invariant all

pub returns-clause-node : goal.returns-clause-node
returns-clause-node c =
    let all : c.loop-phase.phase ≡ length (plan_at c.args.net.now c.args.node) = omega (arith, ap length c.plan-2.ensures.value) in
    expected-node c.args.net.now c.args.node c.args.head.now c.args.sensed.now c.args.heard.now c.loop-phase.lists.items c.plan.ensures.network c.requires.sensed.now c.requires.node
    (expected-are c.args.net.now c.args.node c.args.head.now c.args.sensed.now c.args.heard.now c.loop-phase.lists.items c.loop-phase.phase c.loop-phase.invariant all)

pub returns-clause-clusters : goal.returns-clause-clusters
returns-clause-clusters c =
    let all : c.loop-phase.phase ≡ length (plan_at c.args.net.now c.args.node) = omega (arith, ap length c.plan-2.ensures.value) in
    expected-clusters c.args.net.now c.args.node c.args.head.now c.args.sensed.now c.args.heard.now c.loop-phase.lists.items c.plan.ensures.network c.requires.sensed.now c.requires.node
    (expected-are c.args.net.now c.args.node c.args.head.now c.args.sensed.now c.args.heard.now c.loop-phase.lists.items c.loop-phase.phase c.loop-phase.invariant all)

pub returns-clause-rising : goal.returns-clause-rising
returns-clause-rising c =
    let all : c.loop-phase.phase ≡ length (plan_at c.args.net.now c.args.node) = omega (arith, ap length c.plan-2.ensures.value) in
    expected-rising c.args.net.now c.args.node c.args.head.now c.args.sensed.now c.args.heard.now c.loop-phase.lists.items c.plan.ensures.network c.requires.sensed.now c.requires.node
    (expected-are c.args.net.now c.args.node c.args.head.now c.args.sensed.now c.args.heard.now c.loop-phase.lists.items c.loop-phase.phase c.loop-phase.invariant all)
