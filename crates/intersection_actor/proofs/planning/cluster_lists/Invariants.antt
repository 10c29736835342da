use Rattle.std.proofs.Common.{◌≡◌, map, take}
use Rattle.clusters.specs.Sound.{clusters_of}
use Rattle.intersection_actor.proofs.planning.cluster_lists.Given as goal

abbrev pub invariant-loop-list : goal.invariant-loop-list
invariant-loop-list l = l.clusters.items ≡ map clusters_of (take l.list-index l.lists)
