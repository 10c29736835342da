use Rattle.std.proofs.Common.{map}
use Rattle.std.specs.List.{range_with_len}
use Rattle.delay_report.specs.Reports.{step_record_at}
use Rattle.delay_report.specs.Walks.{HasWalkedTo}
use Rattle.world_records.specs.Written.{Adds}
use Rattle.delay_report.proofs.steps.write_steps.Given as goal

abbrev pub invariant-loop-place : goal.invariant-loop-place
invariant-loop-place l = record {
  stands : HasWalkedTo l.net l.nodes l.place l.walk;
  adds : Adds l.fn.out l.out (map (step_record_at l.net l.nodes) (range_with_len 0 l.place));
}
