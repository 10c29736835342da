-- Which fault of a draft is the first, as docs/FORMATS.md, "Places and faults", orders them. Each section is a case, and
-- items and subs count from 1; what has none is 0.
use Rattle.std.specs.Prelude.{◌≡◌, ℕ, List, take, All, Contains, Some, IfSome, slice_get}
use Rattle.foundation.specs.Firsts.{IsFirstAt, IsFirstNot, FromOne}
use Rattle.net_parts.specs.declared.drafts.Draft.{Draft}
use Rattle.net_parts.specs.declared.drafts.DraftNode.{DraftNode}
use Rattle.net_parts.specs.declared.drafts.DraftPhase.{DraftPhase}
use Rattle.net_parts.specs.declared.drafts.DraftLink.{DraftLink}
use Rattle.net_parts.specs.declared.drafts.DraftTurn.{DraftTurn}
use Rattle.net_parts.specs.declared.drafts.DraftConflict.{DraftConflict}
use Rattle.net_parts.specs.declared.faults.Section.{Section}
use Rattle.net_parts.specs.declared.faults.Section.TheVariants.{Top, Run, Node, Phase, Link, Turn, Conflict}
use Rattle.net_parts.specs.declared.faults.NetFault.{NetFault}
use Rattle.net_parts.specs.declared.faults.NetFault.TheVariants.{NoMemory, NotToml, Shape, Bound, Twice, Unknown}
use Rattle.net_parts.specs.Bounds.{HasCounts, HasRun, HasNodeBounds, HasLinkBounds, IsBoundedPhase, IsBoundedNode, IsBoundedTurn, IsBoundedLink}
use Rattle.net_parts.specs.Numbers.{AreDistinct, node_names, link_names, yield_names}

-- the first fault within a node: of its own bounds, or else of its first phase out of bounds
abbrev pub IsNodeFault : DraftNode → Section → ℕ → Type 0
IsNodeFault n Node sub = (sub ≡ 0) × ¬ HasNodeBounds n
IsNodeFault n Phase sub = HasNodeBounds n × FromOne (IsFirstNot IsBoundedPhase n.phases) sub
IsNodeFault n _ sub = ⊥

-- the first fault within a link: of its own bounds, or else of its first turn out of bounds
abbrev pub IsLinkFault : DraftLink → Section → ℕ → Type 0
IsLinkFault l Link sub = (sub ≡ 0) × ¬ HasLinkBounds l
IsLinkFault l Turn sub = HasLinkBounds l × FromOne (IsFirstNot IsBoundedTurn l.turns) sub
IsLinkFault l _ sub = ⊥

-- the first place of a draft that is out of its bounds
abbrev pub IsBoundFault : Draft → Section → ℕ → ℕ → Type 0
IsBoundFault d Top item sub = (item ≡ 0) × (sub ≡ 0) × ¬ HasCounts d
IsBoundFault d Run item sub = (item ≡ 0) × (sub ≡ 0) × HasCounts d × ¬ HasRun d
IsBoundFault d Node item sub =
    HasCounts d × HasRun d × FromOne (IsFirstAt IsBoundedNode (λ n. IsNodeFault n Node sub) d.nodes) item
IsBoundFault d Phase item sub =
    HasCounts d × HasRun d × FromOne (IsFirstAt IsBoundedNode (λ n. IsNodeFault n Phase sub) d.nodes) item
IsBoundFault d Link item sub =
    HasCounts d × HasRun d × All IsBoundedNode d.nodes
    × FromOne (IsFirstAt IsBoundedLink (λ l. IsLinkFault l Link sub) d.links) item
IsBoundFault d Turn item sub =
    HasCounts d × HasRun d × All IsBoundedNode d.nodes
    × FromOne (IsFirstAt IsBoundedLink (λ l. IsLinkFault l Turn sub) d.links) item
IsBoundFault d Conflict item sub = ⊥

-- why a draft is out of bounds
abbrev pub FailsBounds : Draft → NetFault → Type 0
FailsBounds d (Bound place) = IsBoundFault d place.part place.item place.sub
FailsBounds d _ = ⊥

-- the name at this index, from 0, is the first of the list that stands before it already
pub record IsFirstTwice (names : List (List ℕ)) (index : ℕ) : Type 0 where
  pub name : List ℕ
  pub there : slice_get names index ≡ Some name
  pub before : AreDistinct (take index names)
  pub again : Contains (take index names) name

-- the first node with the name of an earlier node, or else the first link with the name of an earlier link
abbrev pub IsTwiceFault : Draft → Section → ℕ → ℕ → Type 0
IsTwiceFault d Node item sub = (sub ≡ 0) × FromOne (IsFirstTwice (node_names d)) item
IsTwiceFault d Link item sub = (sub ≡ 0) × AreDistinct (node_names d) × FromOne (IsFirstTwice (link_names d)) item
IsTwiceFault d _ item sub = ⊥

-- all names that a phase uses are names of links
pub record IsKnownPhase (names : List (List ℕ)) (p : DraftPhase) : Type 0 where
  pub links : All (Contains names) p.links
  pub also : All (Contains names) p.also

-- all names that the phases of a node use are names of links
abbrev pub IsKnownNode : List (List ℕ) → DraftNode → Type 0
IsKnownNode links n = All (IsKnownPhase links) n.phases

-- where a link comes from a node or ends at one, it is one of the nodes
pub record HasKnownEnds (nodes : List (List ℕ)) (l : DraftLink) : Type 0 where
  pub from : IfSome l.from (Contains nodes)
  pub to : IfSome l.to (Contains nodes)

-- a link whose ends, and the links to which it gives way, are there
pub record HasKnownNames (nodes links : List (List ℕ)) (l : DraftLink) : Type 0 where
  pub ends : HasKnownEnds nodes l
  pub yields : All (Contains links) (yield_names l.yields)

-- the turn leads into one of the links
abbrev pub IsKnownTurn : List (List ℕ) → DraftTurn → Type 0
IsKnownTurn links t = Contains links t.exit

-- a link all of whose names, those of its turns too, are there
pub record IsKnownLink (nodes links : List (List ℕ)) (l : DraftLink) : Type 0 where
  pub own : HasKnownNames nodes links l
  pub turns : All (IsKnownTurn links) l.turns

-- a conflict between two of the links
pub record IsKnownConflict (links : List (List ℕ)) (c : DraftConflict) : Type 0 where
  pub a : Contains links c.a
  pub b : Contains links c.b

-- the first phase of a node with a name that is no link's
abbrev pub IsUnknownInNode : List (List ℕ) → DraftNode → ℕ → Type 0
IsUnknownInNode links n sub = FromOne (IsFirstNot (IsKnownPhase links) n.phases) sub

-- the first fault of a link: one of its ends is no node or it gives way to no link, or else its first turn into no link
abbrev pub IsUnknownInLink : List (List ℕ) → List (List ℕ) → DraftLink → Section → ℕ → Type 0
IsUnknownInLink nodes links l Link sub = (sub ≡ 0) × ¬ HasKnownNames nodes links l
IsUnknownInLink nodes links l Turn sub =
    HasKnownNames nodes links l × FromOne (IsFirstNot (IsKnownTurn links) l.turns) sub
IsUnknownInLink nodes links l _ sub = ⊥

-- the first place of a draft that uses a name which stands for nothing: all phases come first, then each link with its
-- turns, then conflicts
abbrev pub IsUnknownFault : Draft → Section → ℕ → ℕ → Type 0
IsUnknownFault d Phase item sub =
    FromOne (IsFirstAt (IsKnownNode (link_names d)) (λ n. IsUnknownInNode (link_names d) n sub) d.nodes) item
IsUnknownFault d Link item sub =
    All (IsKnownNode (link_names d)) d.nodes
    × FromOne (IsFirstAt (IsKnownLink (node_names d) (link_names d))
    (λ l. IsUnknownInLink (node_names d) (link_names d) l Link sub) d.links) item
IsUnknownFault d Turn item sub =
    All (IsKnownNode (link_names d)) d.nodes
    × FromOne (IsFirstAt (IsKnownLink (node_names d) (link_names d))
    (λ l. IsUnknownInLink (node_names d) (link_names d) l Turn sub) d.links) item
IsUnknownFault d Conflict item sub =
    (sub ≡ 0) × All (IsKnownNode (link_names d)) d.nodes × All (IsKnownLink (node_names d) (link_names d)) d.links
    × FromOne (IsFirstNot (IsKnownConflict (link_names d)) d.conflicts) item
IsUnknownFault d _ item sub = ⊥

-- why a draft has no numbers for its names, unless it is out of memory
abbrev pub FailsNumbers : Draft → NetFault → Type 0
FailsNumbers d NoMemory = Unit {0}
FailsNumbers d (Twice place) = IsTwiceFault d place.part place.item place.sub
FailsNumbers d (Unknown place) =
    AreDistinct (node_names d) × AreDistinct (link_names d) × IsUnknownFault d place.part place.item place.sub
FailsNumbers d _ = ⊥

-- A draft can be refused with the fault. Unless it is out of memory, the fact holds.
abbrev pub Refuses : NetFault → Type 0 → Type 0
Refuses NoMemory fact = Unit {0}
Refuses NotToml fact = ⊥
Refuses (Shape place) fact = ⊥
Refuses _ fact = fact
