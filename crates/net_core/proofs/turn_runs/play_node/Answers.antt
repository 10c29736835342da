use Rattle.std.proofs.Common.{◌≡◌, ◌*◌, ◌++◌, length, rules, refl, sym, ap, subst, ◌∙◌, arith}
use Rattle.std.specs.Prelude.{replicate}
use Rattle.histories.specs.Steps.{board_steps}
use Rattle.net_core.specs.States.{AreInRound}
use Rattle.net_core.proofs.TurnLaws.{no-steps, one-step, some-steps, step-left}
use Rattle.net_core.proofs.turn_runs.play_node.Goals as goal

pub loop-step-init : goal.loop-step-init
loop-step-init g c = record {
  played = λ h plans u. subst (λ l. AreInRound c.args.net.now c.args.arrivals.now l plans c.args.parts.now) (sym (no-steps h c.args.node)) u.in_round;
  round = refl;
}

pub act-requires-clause-playing : goal.act-requires-clause-playing
act-requires-clause-playing g c =
    let (h, plans, u) = c.requires.turn in
    (h ++ replicate c.loop-step.step c.args.node, plans, c.loop-step.invariant.played h plans u)

pub act-requires-clause-want : goal.act-requires-clause-want
act-requires-clause-want g c =
    let net = c.args.net.now in
    let (h, plans, u) = c.requires.turn in
    let l = c.loop-step in
    step-left net c.law_of_network.ensures c.args.arrivals.now (h ++ replicate l.step c.args.node) plans l.parts (l.invariant.played h plans u) c.args.node l.step c.requires.node
    (some-steps net h c.args.node l.step l.parts.round (u.counted ∙ ap (λ r. r * length (board_steps net c.args.node)) (sym l.invariant.round)))
    (omega (arith, c.loop-step-test.true, c.step_count-step-end.ensures.value))

pub loop-step-preserved : goal.loop-step-preserved
loop-step-preserved g c =
    let l = c.loop-step in
    record {
      played = λ h plans u. subst (λ z. AreInRound c.args.net.now c.args.arrivals.now z plans c.act.new.parts) (one-step h c.args.node l.step)
          (c.in_ok-act.ensures.after (h ++ replicate l.step c.args.node) plans (l.invariant.played h plans u));
      round = c.act.ensures.round ∙ l.invariant.round;
    }

pub returns-clause-played : goal.returns-clause-played
returns-clause-played g c =
    let l = c.loop-step in
    let all : l.step ≡ length (board_steps c.args.net.now c.args.node) = search rules in
    λ h plans u. subst (λ k. AreInRound c.args.net.now c.args.arrivals.now (h ++ replicate k c.args.node) plans l.parts) all (l.invariant.played h plans u)
