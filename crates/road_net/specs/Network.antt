-- Which network a draft stands for, and what is true of every network.
use Rattle.std.specs.Prelude.{◌≡◌, ◌≢◌, ℕ, ◌+◌, ◌<◌, ◌≤◌, List, Some, Result, Ok, Err, length, filter, is_some, slice_index, EachIndex, All, AllPairs, Contains}
use Rattle.net_parts.specs.declared.drafts.Draft.{Draft}
use Rattle.road_net.specs.declared.joins.Side.TheVariants.{From, To}
use Rattle.net_parts.specs.Bounds.{IsBounded}
use Rattle.net_parts.specs.Numbers.{Net, AreDistinct, numbered, node_names, link_names}
use Rattle.net_parts.specs.Outline.{IsOutline, link_at, plan_at, phase_links_at}
use Rattle.road_net.specs.Joins as joins
use Rattle.road_net.specs.Joins.{HasEnds, HaveFewEntries, AreShared, ArePhased, IsConflict, IsAlso, IsYield, IsWalk}
use Rattle.net_parts.specs.declared.faults.NetFault.{NetFault}
use Rattle.net_parts.specs.FirstFaults.{Refuses}

-- How the parts of a network by numbers have to be joined, in the order in which it is tested.
pub record IsJoined (net : Net) : Type 0 where
  pub ends : All HasEnds net.links
  pub entries : HaveFewEntries net.links (length net.node_names)
  pub shares : AreShared net.links net.turns
  pub phases : ArePhased net.links net.phase_links
  pub also : EachIndex net.links (IsAlso net)
  pub conflicts : All (IsConflict net) net.conflicts
  pub yields : EachIndex net.links (IsYield net)
  pub walks : EachIndex net.links (IsWalk net)

-- the network is that of the parts, where they are joined as they have to be
abbrev pub Joins : Net → Result Net NetFault → Type 0
Joins net (Ok network) = (network ≡ net) × IsJoined net
Joins net (Err fault) = Refuses fault (¬ IsJoined net)

-- The network of a draft, in the order in which it is tested: the draft is within its bounds, no two nodes and no two
-- links have one name, the network is the draft with numbers for names, and its parts are joined as they have to be.
pub record IsNetworkOf (d : Draft) (net : Net) : Type 0 where
  pub bounds : IsBounded d
  pub node_names : AreDistinct (node_names d)
  pub link_names : AreDistinct (link_names d)
  pub numbers : numbered d ≡ Some net
  pub joins : IsJoined net

-- the links that end at a node, rising
abbrev pub entry_links : Net → ℕ → List ℕ
entry_links net n = joins.links_of_node To net.links n

-- the links that come from a node, rising
abbrev pub exit_links : Net → ℕ → List ℕ
exit_links net n = joins.links_of_node From net.links n

-- the links on which a node hears another one: its entry links that come from a node, rising
abbrev pub heard_links : Net → ℕ → List ℕ
heard_links net n = filter (λ l. is_some (link_at net l).from) (entry_links net n)

-- the links on which a node tells another one: its exit links that end at a node, rising
abbrev pub told_links : Net → ℕ → List ℕ
told_links net n = filter (λ l. is_some (link_at net l).to) (exit_links net n)

-- The entry and exit links of a node: none is both, so it hears and tells on no more links than there are.
pub record AreApart (net : Net) (n : ℕ) : Type 0 where
  pub apart : (l : ℕ) → Contains (entry_links net n) l → Contains (exit_links net n) l → ⊥
  pub few : length (heard_links net n) + length (told_links net n) ≤ length net.link_names

-- How phases serve links. A link that a phase serves ends at its node, has this phase, and stands there once; a link
-- that ends at a node is served by its phase there.
pub record IsServed (net : Net) : Type 0 where
  pub phase_links : (n k i : ℕ) → n < length net.node_names → k < length (plan_at net n)
      → i < length (phase_links_at net n k)
      → ((link_at net (slice_index (phase_links_at net n k) i)).to ≡ Some n)
      × ((link_at net (slice_index (phase_links_at net n k) i)).phase ≡ k)
  pub differ : (n k : ℕ) → n < length net.node_names → k < length (plan_at net n)
      → AllPairs (λ a b. a ≢ b) (phase_links_at net n k)
  pub entries : (l n : ℕ) → l < length net.link_names → (link_at net l).to ≡ Some n
      → ((link_at net l).phase < length (plan_at net n)) × Contains (phase_links_at net n (link_at net l).phase) l

-- what is true of every network
pub record IsNetwork (net : Net) : Type 0 where
  pub outline : IsOutline net
  pub joins : IsJoined net
  pub served : IsServed net
