-- The clusters of platoons, and what planning and forecasting ask of platoons.
use Rattle.std.specs.Prelude.{◌≡◌, ℕ, ◌<◌, ◌≤◌, List, All, length, map, sum}
use Rattle.switch_rules.specs.Bounds.{most_clusters, most_orders}
use Rattle.switch_rules.specs.Orders.{orders}
use Rattle.switch_rules.specs.Sequences.{IsSpaced, counts_of}
use Rattle.switch_rules.specs.Serving.{IsCluster}
use Rattle.switch_rules.specs.declared.Cluster.{Cluster}
use Rattle.net_parts.specs.Numbers.{Net}
use Rattle.net_parts.specs.Outline.{link_at, phase_links_at, plan_at}
use Rattle.clusters.specs.declared.vehicle_groups.Part.{Part}
use Rattle.clusters.specs.declared.vehicle_groups.Platoon.{Platoon}
use Rattle.clusters.specs.Platoons.{platoons_at, whole_of}
use Rattle.clusters.specs.Windows.{IsRising}

-- a part of a platoon of `len` seconds: an amount for each, at most what can leave its link in a second
pub record IsPart (net : Net) (len : ℕ) (part : Part) : Type 0 where
  pub count : length part.amounts ≡ len
  pub amounts : All (λ amount. amount ≤ (link_at net part.link).sat) part.amounts

-- a platoon of these links that does not arrive before now: a part for each link, in their order, that add up to its size
pub record IsPlatoon (net : Net) (now : ℕ) (links : List ℕ) (p : Platoon) : Type 0 where
  pub arr : now ≤ p.cluster.arr
  pub order : map (λ part. part.link) p.parts ≡ links
  pub parts : All (IsPart net p.cluster.len) p.parts
  pub whole : whole_of p.parts ≡ p.cluster.size

-- each list has the platoons of a phase of the node
pub record AreOfNode (net : Net) (node now : ℕ) (lists : List (List Platoon)) : Type 0 where
  pub count : length lists ≡ length (plan_at net node)
  pub each : (k : ℕ) → k < length lists → All (IsPlatoon net now (phase_links_at net node k)) (platoons_at lists k)

-- the clusters of the platoons of one phase: of each platoon what planning sees
abbrev pub clusters_of : List Platoon → List Cluster
clusters_of list = map (λ p. p.cluster) list

-- the clusters of the platoons of a node, phase by phase
abbrev pub cluster_lists : List (List Platoon) → List (List Cluster)
cluster_lists lists = map clusters_of lists

-- no cluster arrives before the one before it has arrived whole, and each is within its bounds
pub record AreSpacedClusters (list : List Cluster) : Type 0 where
  pub each : All IsCluster list
  pub spaced : IsSpaced list

-- lists of clusters as those of an instance have to be: spaced, at most 40 in all, in at most 50,000 orders
pub record ArePlannable (lists : List (List Cluster)) : Type 0 where
  pub clusters : All (All IsCluster) lists
  pub spaced : All IsSpaced lists
  pub few : sum (counts_of lists) ≤ most_clusters
  pub orders : length (orders (counts_of lists)) ≤ most_orders

-- The platoons of a phase of a node, as planning and forecasting ask of them. No public clause names it.
pub record AreSoundOf (net : Net) (node phase now : ℕ) (list : List Platoon) : Type 0 where
  pub parts : All (IsPlatoon net now (phase_links_at net node phase)) list
  pub clusters : AreSpacedClusters (clusters_of list)
  pub rising : IsRising list
