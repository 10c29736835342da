use Rattle.std.proofs.Common.{false, sym, ◌∙◌}
use Rattle.control_flow.specs.Timelines.{stops_at}
use Rattle.phase_plan.proofs.RingLaws.{stops-first}
use Rattle.control_flow.proofs.ring.first_stop.Goals as goal

pub loop-phase-preserved : goal.loop-phase-preserved
loop-phase-preserved c =
    c.loop-phase.invariant ∙ stops-first (stops_at c.args.plan.now c.args.calls.now) c.loop-phase.phase c.args.high false c.loop-phase-test.true (sym c.stops_at.ensures ∙ c.if-stops_at.false)
