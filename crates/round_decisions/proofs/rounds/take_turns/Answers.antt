use Rattle.std.proofs.Common.{refl, arith}
use Rattle.runs.proofs.Resting.{no_commitment}
use Rattle.round_decisions.specs.Steps.{state_of}
use Rattle.round_decisions.proofs.RoundLaws.{can-turn, lines-left, sensed-left, turned-more, turned-none}
use Rattle.round_decisions.proofs.rounds.take_turns.Goals as goal

pub loop-node-init : goal.loop-node-init
loop-node-init g c =
    turned-none c.args.net.now (state_of c.args.round c.args.waiting.now c.args.decided.now) c.args.waiting.now c.args.decided.now refl refl refl c.requires.plans c.requires.lines (λ k. no_commitment)

pub take_turn-requires-clause-sensed : goal.take_turn-requires-clause-sensed
take_turn-requires-clause-sensed g c = sensed-left c.args.net.now c.nodes-node-end.ensures.network (state_of c.args.round c.args.waiting.now c.args.decided.now) c.requires.state c.loop-node.node (omega (arith, c.loop-node-test.true, c.nodes-node-end.ensures.value)) c.loop-node.waiting c.loop-node.decided c.loop-node.invariant

pub take_turn-requires-clause-lines : goal.take_turn-requires-clause-lines
take_turn-requires-clause-lines g c = lines-left c.args.net.now c.nodes-node-end.ensures.network (state_of c.args.round c.args.waiting.now c.args.decided.now) c.requires.state c.loop-node.node (omega (arith, c.loop-node-test.true, c.nodes-node-end.ensures.value)) c.loop-node.waiting c.loop-node.decided c.loop-node.invariant

pub take_turn-requires-clause-can : goal.take_turn-requires-clause-can
take_turn-requires-clause-can g c = can-turn c.args.net.now c.nodes-node-end.ensures.network (state_of c.args.round c.args.waiting.now c.args.decided.now) c.requires.state c.loop-node.node (omega (arith, c.loop-node-test.true, c.nodes-node-end.ensures.value)) c.loop-node.waiting c.loop-node.decided c.loop-node.invariant

pub loop-node-preserved : goal.loop-node-preserved
loop-node-preserved g c = turned-more c.args.net.now c.nodes-node-end.ensures.network (state_of c.args.round c.args.waiting.now c.args.decided.now) c.requires.state c.loop-node.node (omega (arith, c.loop-node-test.true, c.nodes-node-end.ensures.value)) c.loop-node.waiting c.loop-node.decided c.loop-node.invariant c.take_turn.new.waiting c.take_turn.new.decided c.in_ok-take_turn.ensures
