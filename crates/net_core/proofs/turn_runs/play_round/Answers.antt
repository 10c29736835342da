use Rattle.std.proofs.Common.{◌≡◌, ◌++◌, length, rules, sym, subst, ◌∙◌, arith, append-nil}
use Rattle.histories.specs.Histories.{turns, HasRounds}
use Rattle.histories.specs.Steps.{board_steps}
use Rattle.net_core.specs.States.{AreInRound}
use Rattle.net_core.proofs.TurnLaws.{all-turned, next-turn, turn-comes, turn-over}
use Rattle.net_core.proofs.turn_runs.play_round.Goals as goal

pub loop-node-init : goal.loop-node-init
loop-node-init g c = record {
  played = λ h plans b. subst (λ l. AreInRound c.args.net.now c.args.arrivals.now l plans c.begin_round.new.parts) (sym (append-nil h)) (c.in_ok-begin_round.ensures.in_round h plans b);
  round = c.begin_round.ensures.round;
}

pub play_node-requires-clause-turn : goal.play_node-requires-clause-turn
play_node-requires-clause-turn g c =
    let net = c.args.net.now in
    let l = c.loop-node in
    let (h, plans, b) = c.requires.resting in
    let rounds : HasRounds (board_steps net) l.parts.round h = subst (λ r. HasRounds (board_steps net) r h) (sym l.invariant.round) b.rounds_done in
    (h ++ turns (board_steps net) l.node, plans, record { in_round = l.invariant.played h plans b; counted = turn-comes net h l.parts.round rounds l.node })

pub loop-node-preserved : goal.loop-node-preserved
loop-node-preserved g c =
    let net = c.args.net.now in
    let l = c.loop-node in
    record {
      played = λ h plans b.
          let rounds : HasRounds (board_steps net) l.parts.round h = subst (λ r. HasRounds (board_steps net) r h) (sym l.invariant.round) b.rounds_done in
          subst (λ z. AreInRound net c.args.arrivals.now z plans c.play_node.new.parts) (next-turn net h l.parts.round rounds l.node)
          (c.in_ok-play_node.ensures.played (h ++ turns (board_steps net) l.node) plans (record { in_round = l.invariant.played h plans b; counted = turn-comes net h l.parts.round rounds l.node }));
      round = c.play_node.ensures.round ∙ l.invariant.round;
    }

pub returns-clause-played : goal.returns-clause-played
returns-clause-played g c =
    let net = c.args.net.now in
    let l = c.loop-node in
    let all : l.node ≡ length net.node_names = search rules in
    λ h plans b. subst (λ k. AreInRound net c.args.arrivals.now (h ++ turns (board_steps net) k) plans l.parts) all (l.invariant.played h plans b)

pub returns-clause-done : goal.returns-clause-done
returns-clause-done g c =
    let net = c.args.net.now in
    let l = c.loop-node in
    let (h, plans, b) = c.requires.resting in
    let all : length net.node_names ≡ l.node = search rules in
    let rounds : HasRounds (board_steps net) l.parts.round h = subst (λ r. HasRounds (board_steps net) r h) (sym l.invariant.round) b.rounds_done in
    all-turned net c.law_of_network.ensures c.args.arrivals.now (h ++ turns (board_steps net) l.node) plans l.parts (l.invariant.played h plans b)
    (λ n below. turn-over net h l.parts.round rounds n l.node (omega (arith, below, all)))
