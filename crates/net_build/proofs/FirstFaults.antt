-- The first fault of a draft.
use Rattle.std.proofs.Common.{◌≡◌, ℕ, ◌-◌, All, Result, Err, IfErr}
use Rattle.foundation.specs.Firsts.{IsFirstAt, FromOne}
use Rattle.foundation.proofs.FirstLaws.{FromOne-not}
use Rattle.net_parts.specs.declared.drafts.Draft.{Draft}
use Rattle.net_parts.specs.declared.faults.Section.{Section}
use Rattle.net_parts.specs.declared.faults.Section.TheVariants.{Top, Run, Node, Phase, Link, Turn, Conflict}
use Rattle.net_parts.specs.declared.faults.Place.{Place}
use Rattle.net_parts.specs.declared.faults.NetFault.{NetFault}
use Rattle.net_parts.specs.declared.faults.NetFault.TheVariants.{NoMemory, NotToml, Shape, Bound, Twice, Unknown, Ends, Crowd, Shares, Phaseless, Also, Clash, Yields, Walk}
use Rattle.net_parts.specs.declared.parts.Parts.{Parts}
use Rattle.net_parts.specs.FirstFaults.{IsKnownPhase, IsKnownNode, IsKnownTurn, IsKnownLink, IsKnownConflict, IsUnknownInNode, IsUnknownInLink, IsTwiceFault, IsUnknownFault, FailsNumbers, Refuses}
use Rattle.net_parts.specs.Numbers.{Net, AreDistinct, node_names, link_names}
use Rattle.net_build.specs.Outcome.{IsBoundAt, IsTwiceAt, IsUnknownAt}
use Rattle.net_parts.specs.Parts.{IsNetOf}
use Rattle.net_parts.proofs.Distinct.{IsFirstTwice-not}
use Rattle.net_parts.proofs.DraftParts.{IsNumbered, numbered-parts}
use Rattle.net_parts.proofs.Known.{nodes-known, links-known, conflicts-known}

-- what the fault of a part says of the whole
pub IsBoundAt-weaker : (why why' : Place → Type 0) (fault : NetFault) → ((place : Place) → why place → why' place) → IsBoundAt why fault → IsBoundAt why' fault
IsBoundAt-weaker why why' NoMemory f h = h
IsBoundAt-weaker why why' NotToml f h = h
IsBoundAt-weaker why why' (Shape place) f h = h
IsBoundAt-weaker why why' (Bound place) f h = f place h
IsBoundAt-weaker why why' (Twice place) f h = h
IsBoundAt-weaker why why' (Unknown place) f h = h
IsBoundAt-weaker why why' (Ends link) f h = h
IsBoundAt-weaker why why' (Crowd node) f h = h
IsBoundAt-weaker why why' (Shares link) f h = h
IsBoundAt-weaker why why' (Phaseless link) f h = h
IsBoundAt-weaker why why' (Also link) f h = h
IsBoundAt-weaker why why' (Clash a b) f h = h
IsBoundAt-weaker why why' (Yields link) f h = h
IsBoundAt-weaker why why' (Walk link) f h = h

pub IsUnknownAt-weaker : (why why' : Place → Type 0) (fault : NetFault) → ((place : Place) → why place → why' place) → IsUnknownAt why fault → IsUnknownAt why' fault
IsUnknownAt-weaker why why' NoMemory f h = h
IsUnknownAt-weaker why why' NotToml f h = h
IsUnknownAt-weaker why why' (Shape place) f h = h
IsUnknownAt-weaker why why' (Bound place) f h = h
IsUnknownAt-weaker why why' (Twice place) f h = h
IsUnknownAt-weaker why why' (Unknown place) f h = f place h
IsUnknownAt-weaker why why' (Ends link) f h = h
IsUnknownAt-weaker why why' (Crowd node) f h = h
IsUnknownAt-weaker why why' (Shares link) f h = h
IsUnknownAt-weaker why why' (Phaseless link) f h = h
IsUnknownAt-weaker why why' (Also link) f h = h
IsUnknownAt-weaker why why' (Clash a b) f h = h
IsUnknownAt-weaker why why' (Yields link) f h = h
IsUnknownAt-weaker why why' (Walk link) f h = h

module _ (d : Draft) where
  -- a name that comes twice
  pub FailsNumbers-twice : (why : Place → Type 0) (fault : NetFault) → ((place : Place) → why place → IsTwiceFault d place.part place.item place.sub) → IsTwiceAt why fault → FailsNumbers d fault
  FailsNumbers-twice why NoMemory f h = tt
  FailsNumbers-twice why NotToml f h = h
  FailsNumbers-twice why (Shape place) f h = h
  FailsNumbers-twice why (Bound place) f h = h
  FailsNumbers-twice why (Twice place) f h = f place h
  FailsNumbers-twice why (Unknown place) f h = absurd h
  FailsNumbers-twice why (Ends link) f h = h
  FailsNumbers-twice why (Crowd node) f h = h
  FailsNumbers-twice why (Shares link) f h = h
  FailsNumbers-twice why (Phaseless link) f h = h
  FailsNumbers-twice why (Also link) f h = h
  FailsNumbers-twice why (Clash a b) f h = h
  FailsNumbers-twice why (Yields link) f h = h
  FailsNumbers-twice why (Walk link) f h = h

  -- a name that stands for nothing, where no name comes twice
  pub FailsNumbers-unknown : AreDistinct (node_names d) → AreDistinct (link_names d) → (why : Place → Type 0) (fault : NetFault) → ((place : Place) → why place → IsUnknownFault d place.part place.item place.sub) → IsUnknownAt why fault → FailsNumbers d fault
  FailsNumbers-unknown nodes links why NoMemory f h = tt
  FailsNumbers-unknown nodes links why NotToml f h = h
  FailsNumbers-unknown nodes links why (Shape place) f h = h
  FailsNumbers-unknown nodes links why (Bound place) f h = h
  FailsNumbers-unknown nodes links why (Twice place) f h = absurd h
  FailsNumbers-unknown nodes links why (Unknown place) f h = (nodes, links, f place h)
  FailsNumbers-unknown nodes links why (Ends link) f h = h
  FailsNumbers-unknown nodes links why (Crowd node) f h = h
  FailsNumbers-unknown nodes links why (Shares link) f h = h
  FailsNumbers-unknown nodes links why (Phaseless link) f h = h
  FailsNumbers-unknown nodes links why (Also link) f h = h
  FailsNumbers-unknown nodes links why (Clash a b) f h = h
  FailsNumbers-unknown nodes links why (Yields link) f h = h
  FailsNumbers-unknown nodes links why (Walk link) f h = h

  -- the first fault of a link is the first of the draft, where all phases name links
  pub IsUnknownFault-link : All (IsKnownNode (link_names d)) d.nodes → (part : Section) (item sub : ℕ) → FromOne (IsFirstAt (IsKnownLink (node_names d) (link_names d)) (λ l. IsUnknownInLink (node_names d) (link_names d) l part sub) d.links) item → IsUnknownFault d part item sub
  IsUnknownFault-link nodes Top item sub first = first.at.here
  IsUnknownFault-link nodes Run item sub first = first.at.here
  IsUnknownFault-link nodes Node item sub first = first.at.here
  IsUnknownFault-link nodes Phase item sub first = absurd first.at.here
  IsUnknownFault-link nodes Link item sub first = (nodes, first)
  IsUnknownFault-link nodes Turn item sub first = (nodes, first)
  IsUnknownFault-link nodes Conflict item sub first = absurd first.at.here

  IsTwiceFault-not : (part : Section) (item sub : ℕ) → IsTwiceFault d part item sub → AreDistinct (node_names d) → AreDistinct (link_names d) → ⊥
  IsTwiceFault-not Top item sub h nodes links = h
  IsTwiceFault-not Run item sub h nodes links = h
  IsTwiceFault-not Node item sub h nodes links = IsFirstTwice-not (node_names d) (item - 1) h.1.at nodes
  IsTwiceFault-not Phase item sub h nodes links = h
  IsTwiceFault-not Link item sub h nodes links = IsFirstTwice-not (link_names d) (item - 1) h.2.at links
  IsTwiceFault-not Turn item sub h nodes links = h
  IsTwiceFault-not Conflict item sub h nodes links = h

  module _ (net : Net) (is : IsNumbered d net) where
    known_nodes : All (IsKnownNode (link_names d)) d.nodes
    known_nodes = nodes-known (link_names d) d.nodes net.phase_links net.also_links is.phase_links is.also_links

    known_links : All (IsKnownLink (node_names d) (link_names d)) d.links
    known_links = links-known (link_names d) (node_names d) net.phase_links d.links net.links net.turns net.yields is.links is.turns is.yields

    IsUnknownFault-not : (part : Section) (item sub : ℕ) → IsUnknownFault d part item sub → ⊥
    IsUnknownFault-not Top item sub h = h
    IsUnknownFault-not Run item sub h = h
    IsUnknownFault-not Node item sub h = h
    IsUnknownFault-not Phase item sub h =
        FromOne-not (IsKnownNode (link_names d)) (λ n. IsUnknownInNode (link_names d) n sub) d.nodes item
        (λ n no ok. FromOne-not (IsKnownPhase (link_names d)) (λ p. IsKnownPhase (link_names d) p → ⊥) n.phases sub (λ p not yes. not yes) no ok) h known_nodes
    IsUnknownFault-not Link item sub h =
        FromOne-not (IsKnownLink (node_names d) (link_names d)) (λ l. IsUnknownInLink (node_names d) (link_names d) l Link sub) d.links item (λ l no ok. no.1 ok.own) h.1 known_links
    IsUnknownFault-not Turn item sub h =
        FromOne-not (IsKnownLink (node_names d) (link_names d)) (λ l. IsUnknownInLink (node_names d) (link_names d) l Turn sub) d.links item
        (λ l no ok. FromOne-not (IsKnownTurn (link_names d)) (λ t. IsKnownTurn (link_names d) t → ⊥) l.turns sub (λ t not yes. not yes) no.1 ok.turns) h.1 known_links
    IsUnknownFault-not Conflict item sub h =
        FromOne-not (IsKnownConflict (link_names d)) (λ c. IsKnownConflict (link_names d) c → ⊥) d.conflicts item (λ c not yes. not yes) h.3
        (conflicts-known (link_names d) d.conflicts net.conflicts is.conflicts)

  -- so a fault comes only where the draft has no numbers
  FailsNumbers-refuses : (fault : NetFault) → FailsNumbers d fault → Refuses fault ((net : Net) → IsNetOf d net → ⊥)
  FailsNumbers-refuses NoMemory h = tt
  FailsNumbers-refuses NotToml h = h
  FailsNumbers-refuses (Shape place) h = h
  FailsNumbers-refuses (Bound place) h = absurd h
  FailsNumbers-refuses (Twice place) h = λ net it. IsTwiceFault-not place.part place.item place.sub h it.node_names it.link_names
  FailsNumbers-refuses (Unknown place) h = λ net it. IsUnknownFault-not net (numbered-parts d net it.numbers) place.part place.item place.sub h.2
  FailsNumbers-refuses (Ends link) h = absurd h
  FailsNumbers-refuses (Crowd node) h = absurd h
  FailsNumbers-refuses (Shares link) h = absurd h
  FailsNumbers-refuses (Phaseless link) h = absurd h
  FailsNumbers-refuses (Also link) h = absurd h
  FailsNumbers-refuses (Clash a b) h = absurd h
  FailsNumbers-refuses (Yields link) h = absurd h
  FailsNumbers-refuses (Walk link) h = absurd h

  -- at the exit of a `?`
  pub numbered-fails : (fault : NetFault) (result : Result Parts NetFault) → result ≡ Err fault → FailsNumbers d fault → IfErr result (λ fault. Refuses fault ((net : Net) → IsNetOf d net → ⊥)) × IfErr result (FailsNumbers d)
  numbered-fails fault result is fails = rw is (FailsNumbers-refuses fault fails, fails)
