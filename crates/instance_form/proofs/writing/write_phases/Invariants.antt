use Rattle.std.proofs.Common.{◌≡◌, ◌++◌, take}
use Rattle.std.specs.List.{flat_map}
use Rattle.instance_form.specs.InstanceText.{phase_line}
use Rattle.instance_form.proofs.writing.write_phases.Given as goal

-- the lines of the phases so far stand after what was written before
abbrev pub invariant-loop-phase : goal.invariant-loop-phase
invariant-loop-phase l = l.text.items ≡ l.initial.text.items ++ flat_map (phase_line l.version) (take l.phase-index l.phases)
