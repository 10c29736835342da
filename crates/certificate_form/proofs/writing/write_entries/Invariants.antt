use Rattle.std.proofs.Common.{◌≡◌, ◌+◌, ◌*◌, ◌≤◌, ◌++◌, All, IfSome, length, take, vec_capacity, vec_len}
use Rattle.std.specs.List.{flat_map}
use Rattle.certificate_form.specs.CertificateText.{entry_front, entry_line}
use Rattle.certificate_form.proofs.writing.write_entries.Given as goal

-- the entries so far are written in this much memory, and each has four counts; the front is that of the last entry that had another
abbrev pub invariant-loop-entry : goal.invariant-loop-entry
invariant-loop-entry l = record {
  text : l.text.items ≡ l.initial.text.items ++ flat_map (entry_line l.phases) (take l.entry-index l.entries);
  places : All (λ e. length e.counts ≡ 4) (take l.entry-index l.entries);
  capacity : vec_capacity l.initial.text ≤ vec_capacity l.text;
  room : vec_len l.text ≤ vec_len l.initial.text + 106 * l.entry-index;
  short : length l.front ≤ 42;
  front : IfSome l.last (λ e. l.front ≡ entry_front l.phases e);
}
