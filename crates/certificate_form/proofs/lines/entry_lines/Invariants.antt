use Rattle.std.proofs.Common.{◌≡◌, ◌+◌, ◌-◌, ◌≤◌, length, IfSome}
use Rattle.certificate_form.specs.Lines.{IsFrontText, entry_line_at}
use Rattle.text_lines.specs.Many.{many_at}
use Rattle.text_lines.proofs.ManyLaws.{after}
use Rattle.certificate_form.proofs.lines.entry_lines.Given as goal

abbrev pub invariant-loop-front : goal.invariant-loop-front
invariant-loop-front l = record {
  read : after l.entries.items (many_at (entry_line_at l.phases) (length l.bytes - length l.entries.items) l.rest) ≡ many_at (entry_line_at l.phases) (length l.bytes) l.bytes;
  few : length l.entries.items + length l.rest ≤ length l.bytes;
  last : IfSome l.last (λ x. IsFrontText l.phases x.0 x.1.now);
}

abbrev pub decreases-loop-front : goal.decreases-loop-front
decreases-loop-front l = length l.rest
