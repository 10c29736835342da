use Rattle.round_decisions.proofs.OwnRuns.{own-run}
use Rattle.round_decisions.proofs.OwnTurnLaws.{hears-before, own-chain, turn-in}
use Rattle.round_decisions.proofs.laws.law_of_own_turns.Goals as goal

pub returns-clause-heard : goal.returns-clause-heard
returns-clause-heard c = λ arriving record_of_run run. hears-before c.args.net.now c.law_of_network.ensures arriving run.heard run.made run.by.commits run.along

pub returns-clause-turn : goal.returns-clause-turn
returns-clause-turn c = λ arriving record_of_run state node d run below at turn.
    let net = c.args.net.now in
    turn-in net c.law_of_network.ensures arriving run.heard run.made run.by.commits (hears-before net c.law_of_network.ensures arriving run.heard run.made run.by.commits run.along) state node below at d turn

pub returns-clause-chain : goal.returns-clause-chain
returns-clause-chain c = λ arriving record_of_run states turns run chain.
    let net = c.args.net.now in
    own-chain net c.law_of_network.ensures arriving run.heard run.made run.by.commits (hears-before net c.law_of_network.ensures arriving run.heard run.made run.by.commits run.along) states turns chain

pub returns-clause-run : goal.returns-clause-run
returns-clause-run c = λ arriving states turns chain. own-run c.args.net.now c.law_of_network.ensures arriving states turns chain
