use Rattle.std.proofs.Common.{◌≡◌, map}
use Rattle.std.specs.List.{range_with_len}
use Rattle.net_file.specs.ByNames as spec
use Rattle.net_file.proofs.by_names.phases_by_names.Given as goal

-- the phases so far
abbrev pub invariant-loop-k : goal.invariant-loop-k
invariant-loop-k l = l.phases.items ≡ map (spec.phase_by_names l.names l.plan l.lists l.also) (range_with_len 0 l.k)
