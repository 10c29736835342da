use Rattle.scenario_gen.proofs.Lawful.{grid-few, has-grid}
use Rattle.scenario_gen.proofs.grids.grid.Goals as goal

pub returns-in_err-network-clause-legal : goal.returns-in_err-network-clause-legal
returns-in_err-network-clause-legal c = has-grid c.args.number c.args.side c.args.rounds c.requires.side c.requires.rounds

pub returns-in_err-arrivals-clause-legal : goal.returns-in_err-arrivals-clause-legal
returns-in_err-arrivals-clause-legal c = has-grid c.args.number c.args.side c.args.rounds c.requires.side c.requires.rounds

pub returns-clause-legal : goal.returns-clause-legal
returns-clause-legal c = has-grid c.args.number c.args.side c.args.rounds c.requires.side c.requires.rounds

pub arrivals-requires-clause-few : goal.arrivals-requires-clause-few
arrivals-requires-clause-few c = grid-few c.args.side c.args.rounds _ c.in_ok-network.ensures
