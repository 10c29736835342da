use Rattle.std.proofs.Common.{◌≡◌, map, take}
use Rattle.net_file.specs.ByNames as spec
use Rattle.net_file.proofs.by_names.turns_by_names.Given as goal

-- the drafts are those of the turns so far
abbrev pub invariant-loop-turn : goal.invariant-loop-turn
invariant-loop-turn l = l.drafts.items ≡ map (spec.turn_by_names l.names) (take l.turn-index l.turns)
