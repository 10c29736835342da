-- Which fault of a network is named. The tests go over the whole network one after another, each in the order of the file,
-- and the first link, node or conflict that fails one is named: docs/FORMATS.md, "Places and faults".
use Rattle.std.specs.Prelude.{◌≡◌, ℕ, Some, length, EachIndex, All}
use Rattle.foundation.specs.Firsts.{IsFirstWithout}
use Rattle.net_parts.specs.declared.drafts.Draft.{Draft}
use Rattle.net_parts.specs.declared.faults.NetFault.{NetFault}
use Rattle.net_parts.specs.declared.faults.NetFault.TheVariants.{NoMemory, Bound, Twice, Unknown, Ends, Crowd, Shares, Phaseless, Also, Clash, Yields, Walk}
use Rattle.net_parts.specs.Bounds.{IsBounded}
use Rattle.net_parts.specs.FirstFaults.{IsBoundFault, IsTwiceFault, IsUnknownFault}
use Rattle.net_parts.specs.Numbers.{Net, AreDistinct, numbered, node_names, link_names}
use Rattle.road_net.specs.Joins.{HasEnds, HasEndsAt, HasFewEntries, HaveFewEntries, HasSharesAt, AreShared, IsPhasedAt, ArePhased, IsAlso, IsConflict, conflict_at, IsConflictAt, IsYield, IsWalk}

-- the pair of links is the first conflict of the file that can be none
pub record IsFirstClash (net : Net) (pair : ℕ × ℕ) : Type 0 where
  pub place : ℕ
  pub there : conflict_at net.conflicts place ≡ pair
  pub first : IsFirstWithout (IsConflictAt net) (length net.conflicts) place

-- the ends of links, what ends at nodes, turns and homes are as they must be
pub record IsHomed (net : Net) : Type 0 where
  pub ends : All HasEnds net.links
  pub entries : HaveFewEntries net.links (length net.node_names)
  pub shares : AreShared net.links net.turns
  pub phases : ArePhased net.links net.phase_links

-- Why the parts of a network are not joined as they have to be: the first link without its ends; where all have them, the
-- first node with more links than it may have; else the first link whose turns are not as they must; else the first that phases do not
-- name as they must; else the first that phases do not name also as they may; else the first conflict that can be none; else the first
-- link that gives way as it may not; else the first with a walk that ends at no node, or has a green whose least seconds are fewer than
-- those of its walk and `cross`.
abbrev pub IsJoinFault : Net → NetFault → Type 0
IsJoinFault net NoMemory = Unit {0}
IsJoinFault net (Ends l) = IsFirstWithout (HasEndsAt net.links) (length net.links) l
IsJoinFault net (Crowd n) = All HasEnds net.links × IsFirstWithout (HasFewEntries net.links) (length net.node_names) n
IsJoinFault net (Shares l) =
    All HasEnds net.links × HaveFewEntries net.links (length net.node_names)
    × IsFirstWithout (HasSharesAt net.links net.turns) (length net.links) l
IsJoinFault net (Phaseless l) =
    All HasEnds net.links × HaveFewEntries net.links (length net.node_names) × AreShared net.links net.turns
    × IsFirstWithout (IsPhasedAt net.links net.phase_links) (length net.links) l
IsJoinFault net (Also l) = IsHomed net × IsFirstWithout (IsAlso net) (length net.links) l
IsJoinFault net (Clash a b) = IsHomed net × EachIndex net.links (IsAlso net) × IsFirstClash net (a, b)
IsJoinFault net (Yields l) =
    IsHomed net × EachIndex net.links (IsAlso net) × All (IsConflict net) net.conflicts
    × IsFirstWithout (IsYield net) (length net.links) l
IsJoinFault net (Walk l) =
    IsHomed net × EachIndex net.links (IsAlso net) × All (IsConflict net) net.conflicts
    × EachIndex net.links (IsYield net)
    × IsFirstWithout (IsWalk net) (length net.links) l
IsJoinFault net _ = ⊥

-- the network is the draft with numbers for names, where the draft is within its bounds and no two names are the same
pub record IsNumbersOf (d : Draft) (net : Net) : Type 0 where
  pub bounds : IsBounded d
  pub node_names : AreDistinct (node_names d)
  pub link_names : AreDistinct (link_names d)
  pub numbers : numbered d ≡ Some net

-- with numbers for its names, the draft is this network, of which the fact holds
pub record HasNumbers (d : Draft) (fact : Net → Type 0) : Type 0 where
  pub net : Net
  pub numbers : IsNumbersOf d net
  pub holds : fact net

-- Why a draft stands for no network: its first place out of bounds; within its bounds, the first name that comes twice; else
-- the first place that uses a name which stands for nothing; else, with numbers for its names, the first fault of its joins.
abbrev pub IsDraftFault : Draft → NetFault → Type 0
IsDraftFault d NoMemory = Unit {0}
IsDraftFault d (Bound place) = IsBoundFault d place.part place.item place.sub
IsDraftFault d (Twice place) = IsBounded d × IsTwiceFault d place.part place.item place.sub
IsDraftFault d (Unknown place) =
    IsBounded d × AreDistinct (node_names d) × AreDistinct (link_names d)
    × IsUnknownFault d place.part place.item place.sub
IsDraftFault d fault = HasNumbers d (λ net. IsJoinFault net fault)
