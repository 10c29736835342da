use Rattle.std.proofs.Common.{◌∙◌}
use Rattle.std.proofs.lemmas.Option.{slice_get-get_or}
use Rattle.control_flow.specs.Greens.{no_green}
use Rattle.control_flow.proofs.OrderLaws.{covering-after}
use Rattle.control_flow.proofs.seconds.covering_at.Goals as goal

pub returns-then-second-row-clause-after : goal.returns-then-second-row-clause-after
returns-then-second-row-clause-after c =
    covering-after c.args.rows.now c.args.second c.args.place c.requires c.if-place-rows.false c.if-row-second.true c.if-second-row.true
    ∙ slice_get-get_or c.args.rows.now c.args.place no_green c.if-place-rows.false
