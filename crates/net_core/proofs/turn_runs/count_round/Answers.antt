use Rattle.std.proofs.Common.{◌≡◌, ◌+◌, ◌++◌, ℕ, List, length, ap, subst, ◌∙◌, arith}
use Rattle.histories.specs.Histories.{turns}
use Rattle.histories.specs.Steps.{board_steps}
use Rattle.intersection_actor.specs.declared.records.PlanRecord.{PlanRecord}
use Rattle.runs.specs.Ending.{records_in}
use Rattle.runs.specs.Tallies.{none_count, planned_delays}
use Rattle.net_core.specs.States.{AreBetween, turns_of}
use Rattle.net_core.proofs.Tallied.{counted-more, few-counted, only-new}
use Rattle.net_core.proofs.TurnLaws.{round-more}
use Rattle.net_core.proofs.turn_runs.count_round.Goals as goal

pub play_round-requires-clause-resting : goal.play_round-requires-clause-resting
play_round-requires-clause-resting g c = (turns_of c.args.net.now c.args.parts.now.round, c.requires.turned.plans, c.requires.turned.between)

pub end_round-requires-clause-playing : goal.end_round-requires-clause-playing
end_round-requires-clause-playing g c =
    let net = c.args.net.now in
    let was = c.requires.turned in
    (turns_of net c.args.parts.now.round ++ turns (board_steps net) (length net.node_names), was.plans, c.in_ok-play_round.ensures.played (turns_of net c.args.parts.now.round) was.plans was.between)

pub add-requires-clause-few : goal.add-requires-clause-few
add-requires-clause-few g c =
    let net = c.args.net.now in
    let was = c.requires.turned in
    let planned : List PlanRecord = records_in c.play_round.new.parts.actors.all.items in
    let are : c.as_slice.result.now ≡ planned = only-new c.as_slice.result.now c.end_round.new.plans.items c.args.planned.now.items planned c.as_slice.ensures.value c.end_round.ensures.plans c.requires.blank.none in
    let few = few-counted net c.law_of_network.ensures c.args.arrivals.now (turns_of net c.args.parts.now.round ++ turns (board_steps net) (length net.node_names)) was.plans c.play_round.new.parts
    (c.in_ok-play_round.ensures.played (turns_of net c.args.parts.now.round) was.plans was.between) in
    omega (arith, few, was.counted.plans, c.end_round.ensures.count, ap length are)

pub returns-clause-turned : goal.returns-clause-turned
returns-clause-turned g c =
    let net = c.args.net.now in
    let was = c.requires.turned in
    let history : List ℕ = turns_of net c.args.parts.now.round ++ turns (board_steps net) (length net.node_names) in
    let planned : List PlanRecord = records_in c.play_round.new.parts.actors.all.items in
    let are : c.as_slice.result.now ≡ planned = only-new c.as_slice.result.now c.end_round.new.plans.items c.args.planned.now.items planned c.as_slice.ensures.value c.end_round.ensures.plans c.requires.blank.none in
    record {
      plans = was.plans ++ planned;
      between = subst (λ (h : List ℕ). AreBetween net c.args.arrivals.now h (was.plans ++ planned) c.end_round.new.parts) (round-more net c.args.parts.now.round)
          (c.end_round.ensures.between history was.plans (c.in_ok-play_round.ensures.played (turns_of net c.args.parts.now.round) was.plans was.between));
      round = c.end_round.ensures.round ∙ ap (λ r. r + 1) c.play_round.ensures.round;
      counted = counted-more was.plans planned c.args.tally.now c.add.new.self was.counted
          (c.add.ensures.plans ∙ ap (λ (l : List PlanRecord). c.args.tally.now.plans + length l) are)
          (c.add.ensures.none ∙ ap (λ l. c.args.tally.now.none + none_count l) are)
          (c.add.ensures.delay ∙ ap (λ l. c.args.tally.now.delay + planned_delays l) are);
      bounds = c.add.ensures.bounds;
    }
