use Rattle.forward_dp.proofs.Wholes.{keys-within}
use Rattle.forward_dp.proofs.layered.Goals as goal

pub returns-clause-servings : goal.returns-clause-servings
returns-clause-servings g c keys all = c.layered_within.ensures.servings keys (keys-within c.args.i.now keys all)
