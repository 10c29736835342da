use Rattle.std.proofs.Common.{◌*◌, ◌<◌, ◌≤◌, length}
use Rattle.switch_rules.specs.Bounds.{greatest_load, latest_arrival}
use Rattle.schedule_meaning.specs.Instances.{cluster_at}
use Rattle.dp_certificate.proofs.LowerBoundLaws.{IsUpward}
use Rattle.dp_certificate.proofs.lower_bound.list_cost.Given as goal

-- the clusters so far wait, from the last of them on
abbrev pub invariant-loop-cluster : goal.invariant-loop-cluster
invariant-loop-cluster l = record {
  low : l.from ≤ l.at;
  rise : l.cluster-index < length l.list → l.from ≤ (cluster_at l.list l.cluster-index).arr;
  is : IsUpward l.list l.cluster-index l.from l.steepness l.offset;
  steepness : l.steepness ≤ greatest_load * l.cluster-index;
  offset : l.offset ≤ greatest_load * latest_arrival * l.cluster-index;
}
