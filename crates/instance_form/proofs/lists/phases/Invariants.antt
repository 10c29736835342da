use Rattle.std.proofs.Common.{◌≡◌, ◌+◌, ◌-◌, ◌≤◌, length}
use Rattle.instance_form.specs.Reading.{phases_at}
use Rattle.instance_form.proofs.Loops.{with_phases}
use Rattle.instance_form.proofs.lists.phases.Given as goal

abbrev pub invariant-loop-index : goal.invariant-loop-index
invariant-loop-index l = record {
  read : with_phases l.phases.items (phases_at l.version (l.count - l.index) (l.line + l.index) l.rest) ≡ phases_at l.version l.count l.line l.bytes;
  shorter : length l.rest ≤ length l.bytes;
}
