use Rattle.std.proofs.Common.{◌≡◌, ℕ, List, [], false, ap}
use Rattle.net_core.specs.Cores.{Course}
use Rattle.net_core.proofs.cores.Core.start.Goals as goal

pub returns : goal.returns
returns g c =
    let none : c.go_on.new.kept.history.items ≡ [] = cc (c.go_on.ensures.history, c.open_round.ensures.history, c.in_ok-kept.ensures.history) in
    let course = λ (steps : List ℕ). let made : Course = record { net = c.args.net.now; arrivals = c.args.arrivals.now; steps = steps; spent = false } in made in
    ap course none
