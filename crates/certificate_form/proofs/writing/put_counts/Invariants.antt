use Rattle.std.proofs.Common.{◌≡◌, ◌+◌, ◌*◌, ◌≤◌, ◌++◌, drop, length}
use Rattle.std.specs.List.{flat_map}
use Rattle.certificate_form.specs.CertificateText.{after_space}
use Rattle.certificate_form.proofs.writing.put_counts.Given as goal

-- the counts from this place on are written
abbrev pub invariant-loop-place : goal.invariant-loop-place
invariant-loop-place l = record {
  text : l.line ≡ flat_map after_space (drop l.place l.counts) ++ l.initial.line;
  room : length l.line + 4 * l.place ≤ length l.initial.line + 4 * length l.counts;
}
