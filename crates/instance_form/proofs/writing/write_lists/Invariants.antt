use Rattle.std.proofs.Common.{◌≡◌, ◌++◌, drop}
use Rattle.instance_form.specs.InstanceText.{cluster_lines}
use Rattle.instance_form.proofs.writing.write_lists.Given as goal

-- with the lines of the lists to come the text is the whole
abbrev pub invariant-loop-phase : goal.invariant-loop-phase
invariant-loop-phase l = l.text.items ++ cluster_lines l.version l.phase (drop l.phase l.lists) ≡ l.initial.text.items ++ cluster_lines l.version 0 l.lists
