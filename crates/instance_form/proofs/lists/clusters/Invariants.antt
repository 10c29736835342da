use Rattle.std.proofs.Common.{◌≡◌, ◌+◌, ◌-◌, ◌≤◌, length}
use Rattle.text_lines.specs.Many.{many_at}
use Rattle.text_lines.proofs.ManyLaws.{after}
use Rattle.instance_form.specs.Lines.{cluster_line_at}
use Rattle.instance_form.proofs.lists.clusters.Given as goal

-- what was read and what is still read is the whole
abbrev pub invariant-loop-cluster : goal.invariant-loop-cluster
invariant-loop-cluster l = record {
  read : after l.list.items (many_at (cluster_line_at l.version l.phase) (length l.bytes - length l.list.items) l.rest) ≡ many_at (cluster_line_at l.version l.phase) (length l.bytes) l.bytes;
  few : length l.list.items + length l.rest ≤ length l.bytes;
}

abbrev pub decreases-loop-cluster : goal.decreases-loop-cluster
decreases-loop-cluster l = length l.rest
