use Rattle.round_decisions.proofs.ChainLaws.{chain-is}
use Rattle.round_decisions.proofs.laws.law_of_chains.Goals as goal

pub returns : goal.returns
returns c = λ arriving heard made run states decisions is chain. chain-is c.args.net.now c.law_of_network.ensures arriving heard made run is states decisions chain
