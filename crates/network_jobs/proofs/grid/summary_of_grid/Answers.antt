use Rattle.network_jobs.proofs.GridPlans.{few-plans}
use Rattle.network_jobs.proofs.Planned.{all_summed}
use Rattle.network_jobs.proofs.grid.summary_of_grid.Goals as goal

pub summary-requires-clause-few : goal.summary-requires-clause-few
summary-requires-clause-few c =
    let made = c.in_ok-network in
    let turned = c.in_ok-left in
    few-plans c.args.number c.args.side c.args.rounds made.network made.arrivals turned.left turned.tally c.requires.side c.requires.rounds made.ensures.grid turned.ensures

pub returns : goal.returns
returns c =
    let made = c.in_ok-network in
    let turned = c.in_ok-left in
    all_summed (λ text. text.items) c.args.number c.args.side c.args.rounds made.network made.arrivals turned.left turned.tally c.summary.result made.ensures.grid turned.ensures c.summary.ensures
