use Rattle.std.proofs.Common.{List, ap, ◌∙◌}
use Rattle.arrivals.specs.Amounts.{arriving_of}
use Rattle.control_flow.specs.declared.greens.Green.{Green}
use Rattle.net_simulator.specs.Worlds.{line_in, signs_by}
use Rattle.controller_jobs.specs.Storages.{spilled_under}
use Rattle.controller_jobs.proofs.spill.planned_totals.Goals as goal

pub returns : goal.returns
returns c =
    let turned = c.in_ok-left.ensures in (
      turned.run,
      turned.runs,
      c.in_ok-totals.ensures.value ∙ ap (λ (lines : List (List Green)). spilled_under c.args.net.now (arriving_of c.args.arrivals.now) c.args.store.now (signs_by (line_in lines))) (c.as_slice.ensures ∙ turned.are.timelines),
    )
