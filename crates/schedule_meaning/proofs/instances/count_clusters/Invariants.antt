use Rattle.std.proofs.Common.{◌≡◌, length, map, take}
use Rattle.schedule_meaning.proofs.instances.count_clusters.Given as goal

-- the counts so far are the lengths of the lists so far
abbrev pub invariant-loop-phase : goal.invariant-loop-phase
invariant-loop-phase l = take l.phase l.counts ≡ map length (take l.phase l.lists)
