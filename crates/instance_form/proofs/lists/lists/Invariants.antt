use Rattle.std.proofs.Common.{◌≡◌, ◌+◌, ◌-◌, ◌≤◌, length, sum_by}
use Rattle.instance_form.specs.Reading.{lists_at}
use Rattle.text_lines.proofs.ManyLaws.{after}
use Rattle.instance_form.proofs.lists.lists.Given as goal

-- what was read and what is still read is the whole
abbrev pub invariant-loop-phase : goal.invariant-loop-phase
invariant-loop-phase l = record {
  read : after l.lists.items (lists_at l.version (l.count - l.phase) l.phase l.rest) ≡ lists_at l.version l.count 0 l.bytes;
  total : l.total ≡ sum_by (λ list. length list) l.lists.items;
  few : l.total + length l.rest ≤ length l.bytes;
}
