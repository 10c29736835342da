use Rattle.waits.specs.Bounds.{phase_bounds}
use Rattle.waits.proofs.TableLaws.{map-more}
use Rattle.waits.proofs.bounds.push_node_bounds.Goals as goal

pub loop-phase-preserved : goal.loop-phase-preserved
loop-phase-preserved c =
    map-more (phase_bounds c.args.net.now c.args.node) c.loop-phase.phase c.args.bounds.now.items c.loop-phase.bounds.items c.push.new.self.items c.phase_bounds.result c.loop-phase.invariant c.in_ok-push.ensures.items c.phase_bounds.ensures.value
