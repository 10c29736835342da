use Rattle.std.proofs.Common.{refl, subst}
use Rattle.arrivals.specs.Amounts.{arriving_of}
use Rattle.histories.specs.Histories.{turn_order, HasRounds, IsLawful}
use Rattle.histories.specs.Steps.{board_steps}
use Rattle.runs.proofs.EndedRecords.{with_plans}
use Rattle.net_core.proofs.Over.{left-run}
use Rattle.net_core.proofs.turn_runs.totals_of_turns.Goals as goal

pub play_turns-requires-clause-first : goal.play_turns-requires-clause-first
play_turns-requires-clause-first g c = c.in_ok-parts.ensures.first c.args.arrivals.now

pub returns : goal.returns
returns g c =
    let net = c.args.net.now in
    let turned = c.in_ok-tally.ensures in
    let left = c.totals_of.result in
    let lawful : IsLawful net (turn_order net) = subst (λ r. HasRounds (board_steps net) r (turn_order net)) turned.round turned.between.rounds_done in
    let run = left-run net c.args.arrivals.now (turn_order net) turned.plans c.play_turns.new.parts turned.between turned.round left c.totals_of.ensures in
    record {
      run = with_plans turned.plans left;
      lawful = lawful;
      kept = record { run = run; kept = c.law_of_runs.ensures.kept (arriving_of c.args.arrivals.now) (turn_order net) (with_plans turned.plans left) lawful run };
      totals = record { timelines = refl; links = refl; totals = refl };
      counted = turned.counted;
      bounds = turned.bounds;
    }
