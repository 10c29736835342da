use Rattle.std.proofs.Common.{◌≡◌, map, take}
use Rattle.net_file.specs.ByNames as spec
use Rattle.net_file.proofs.by_names.conflicts_by_names.Given as goal

-- the drafts are those of the conflicts so far
abbrev pub invariant-loop-conflict : goal.invariant-loop-conflict
invariant-loop-conflict l = l.drafts.items ≡ map (spec.conflict_by_names l.names) (take l.conflict-index l.conflicts)
