use Rattle.std.proofs.Common.{take}
use Rattle.round_states.specs.Readers.{HasAllSaid}
use Rattle.round_states.proofs.by_place.all_said.Given as goal

-- what the records so far say
abbrev pub invariant-loop-entry : goal.invariant-loop-entry
invariant-loop-entry g l = HasAllSaid g.K.RecordKind.value_of (take l.entry-index l.entries) l.places l.all.items
