use Rattle.std.proofs.Common.{sym, arith}
use Rattle.net_parts.specs.declared.roads.Turn.{Turn}
use Rattle.road_net.proofs.Shares.{shares-more, split-found, split-none}
use Rattle.road_net.proofs.splits.split.Goals as goal

pub returns-then-turn-exit : goal.returns-then-turn-exit
returns-then-turn-exit c =
    let d : Turn = record { exit = 0; share = 0 } in
    let found = split-found c.args.turns.now c.args.amount c.args.exit c.loop-turn.turn-index d c.loop-turn-test.true c.if-turn-exit.true (λ j b. c.loop-turn.invariant.elsewhere j d b) in
    rw (found, shares-more c.args.turns.now c.loop-turn.turn-index d c.loop-turn-test.true, ← c.loop-turn.invariant.shares) c.part_of_turn.ensures.value

pub returns : goal.returns
returns c = sym (split-none c.args.turns.now c.args.amount c.args.exit (record { exit = 0; share = 0 }) (λ j b. c.loop-turn.invariant.elsewhere j _ (omega arith)))
