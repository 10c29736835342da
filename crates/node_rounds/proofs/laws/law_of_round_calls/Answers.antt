use Rattle.node_rounds.proofs.Along.{along}
use Rattle.node_rounds.proofs.laws.law_of_round_calls.Goals as goal

pub returns : goal.returns
returns c = λ heard made calls history are lawful told. along c.args.net.now c.law_of_network.ensures heard made calls history are lawful told
