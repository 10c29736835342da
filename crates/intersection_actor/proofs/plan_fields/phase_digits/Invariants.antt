use Rattle.std.proofs.Common.{◌≡◌, take}
use Rattle.std.specs.Fmt.{decimal}
use Rattle.std.specs.List.{flat_map}
use Rattle.intersection_actor.proofs.plan_fields.phase_digits.Given as goal

abbrev pub invariant-loop-phase : goal.invariant-loop-phase
invariant-loop-phase l = l.text.items ≡ flat_map decimal (take l.phase-index l.phases)
