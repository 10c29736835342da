use Rattle.std.proofs.Common.{arith}
use Rattle.outflow.proofs.AddLaws.{share-found, share-none}
use Rattle.outflow.proofs.exit_flow.share_into.Goals as goal

pub returns-then-turn-exit : goal.returns-then-turn-exit
returns-then-turn-exit c =
    share-found c.args.turns.now c.args.exit c.loop-turn.before c.loop-turn.turn-index (record { exit = 0; share = 0 }) c.requires c.loop-turn-test.true c.if-turn-exit.true c.loop-turn.invariant.shares
    (λ j b. c.loop-turn.invariant.elsewhere j _ b)

pub returns : goal.returns
returns c = share-none c.args.turns.now c.args.exit (record { exit = 0; share = 0 }) (λ j b. c.loop-turn.invariant.elsewhere j _ (omega arith))
