use Rattle.std.proofs.Common.{◌≡◌, ◌+◌, ◌-◌, ◌^◌, ◌≤◌, length}
use Rattle.text_lines.specs.Fields.{field_at}
use Rattle.text_lines.specs.Many.{many_at}
use Rattle.text_lines.proofs.ManyLaws.{after}
use Rattle.certificate_form.proofs.lines.spaced_numbers.Given as goal

abbrev pub invariant-loop-number : goal.invariant-loop-number
invariant-loop-number l = record {
  read : after l.numbers.items (many_at (field_at (2 ^ 8) 32) (length l.bytes - length l.numbers.items) l.rest) ≡ many_at (field_at (2 ^ 8) 32) (length l.bytes) l.bytes;
  few : length l.numbers.items + length l.rest ≤ length l.bytes;
}

abbrev pub decreases-loop-number : goal.decreases-loop-number
decreases-loop-number l = length l.rest
