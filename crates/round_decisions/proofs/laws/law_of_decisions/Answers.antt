use Rattle.round_decisions.proofs.OfRunLaws.{round-in}
use Rattle.round_decisions.proofs.laws.law_of_decisions.Goals as goal

pub returns : goal.returns
returns c = λ arriving heard made run state d is at decision. round-in c.args.net.now c.law_of_network.ensures arriving heard made run is state at d decision
