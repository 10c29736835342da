use Rattle.std.proofs.Common.{◌+◌, ◌≤◌, ◌++◌, codes, length, vec_capacity, vec_len}
use Rattle.std.specs.List.{flat_map}
use Rattle.certificate_form.specs.CertificateText.{entry_line}
use Rattle.certificate_form.proofs.PartLaws.{HasPut}
use Rattle.certificate_form.proofs.writing.put_rest.Given as goal

-- the lines before those that are left are in the sink, but for what the buffer holds, and there is room for a part after it
abbrev pub invariant-loop-left : goal.invariant-loop-left
invariant-loop-left g l = record {
  put : HasPut (l.initial.text.items ++ (flat_map (entry_line l.phases) l.entries ++ codes "end\n")) l.text.items (flat_map (entry_line l.phases) l.left ++ codes "end\n") (g.O.Sink.state l.initial.out) (g.O.Sink.state l.out);
  room : vec_len l.text + 54276 ≤ vec_capacity l.text;
}

abbrev pub decreases-loop-left : goal.decreases-loop-left
decreases-loop-left g l = length l.left
