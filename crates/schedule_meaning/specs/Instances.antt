-- What one intersection has to plan.
use Rattle.std.specs.Prelude.{◌≡◌, ◌≤◌, List, length, All, sum}
use Rattle.phase_plan.specs.Phases.{IsRing}
use Rattle.phase_plan.specs.declared.Phase.{Phase}
use Rattle.switch_rules.specs.Bounds.{latest_arrival, most_clusters, most_orders}
use Rattle.switch_rules.specs.Serving.{IsHead, IsCluster}
use Rattle.switch_rules.specs.Orders.{orders}
pub use Rattle.switch_rules.specs.Sequences.{IsSpaced, cluster_at, counts_of, list_at, no_cluster}
use Rattle.switch_rules.specs.declared.Head.{Head}
use Rattle.switch_rules.specs.declared.Cluster.{Cluster}

-- what one intersection has to plan: its phases, its head, and the clusters of each phase in their order
pub record Problem : Type 0 where
  pub plan : List Phase
  pub head : Head
  pub lists : List (List Cluster)

-- an instance: a problem within its bounds
pub record IsInstance (p : Problem) : Type 0 where
  pub plan : IsRing p.plan
  pub head : IsHead p.plan p.head
  pub since : p.head.since ≤ latest_arrival
  pub lists : length p.lists ≡ length p.plan
  pub clusters : All (All IsCluster) p.lists
  pub spaced : All IsSpaced p.lists
  pub few : sum (counts_of p.lists) ≤ most_clusters
  pub orders : length (orders (counts_of p.lists)) ≤ most_orders
