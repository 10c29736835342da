use Rattle.std.proofs.Common.{arith, length}
use Rattle.delay_report.specs.Reports.{step_record_at}
use Rattle.world_records.proofs.WrittenLaws.{adds-next, adds-numbers}
use Rattle.delay_report.proofs.steps.write_steps.Goals as goal

pub loop-place-preserved : goal.loop-place-preserved
loop-place-preserved c = record {
  stands = c.in_ok-write_step.ensures.stands;
  adds = adds-next (step_record_at c.args.net.now c.args.nodes.now) c.loop-place.place c.args.out.now c.loop-place.out c.write_step.new.out c.loop-place.invariant.adds c.in_ok-write_step.ensures.record;
}

pub returns-clause-records : goal.returns-clause-records
returns-clause-records c = adds-numbers (step_record_at c.args.net.now c.args.nodes.now) c.loop-place.place (length c.args.nodes.now) c.args.out.now c.loop-place.out (omega arith) c.loop-place.invariant.adds
