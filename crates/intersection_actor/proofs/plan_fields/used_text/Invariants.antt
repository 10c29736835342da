use Rattle.std.proofs.Common.{◌≡◌, map, take}
use Rattle.std.specs.List.{join_with_byte}
use Rattle.intersection_actor.specs.PlanFields as fields
use Rattle.intersection_actor.proofs.plan_fields.used_text.Given as goal

abbrev pub invariant-loop-place : goal.invariant-loop-place
invariant-loop-place l = l.text.items ≡ join_with_byte 59 (map (fields.used_text l.net) (take l.place l.used))
