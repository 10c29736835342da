-- What the stages of numbering a draft say of the whole.
use Rattle.std.proofs.Common.{◌≡◌, ◌≤◌, ℕ, List, length, map, All, Contains, Some, Result, Ok, Err, IfOk, IfErr, OnOk, refl, arith}
use Rattle.std.proofs.lemmas.List.{length-map}
use Rattle.foundation.specs.Firsts.{IsFirstAt, IsFirstNot, FromOne}
use Rattle.foundation.specs.Options.{each}
use Rattle.foundation.proofs.EachLaws.{each-length}
use Rattle.phase_plan.specs.declared.Phase.{Phase}
use Rattle.net_parts.specs.declared.drafts.Draft.{Draft}
use Rattle.net_parts.specs.declared.drafts.DraftNode.{DraftNode}
use Rattle.net_parts.specs.declared.drafts.DraftLink.{DraftLink}
use Rattle.net_parts.specs.declared.drafts.DraftConflict.{DraftConflict}
use Rattle.net_parts.specs.declared.faults.Section.TheVariants.{Phase as AtPhase, Conflict as AtConflict}
use Rattle.net_parts.specs.declared.faults.NetFault.{NetFault}
use Rattle.net_parts.specs.declared.roads.Link.{Link}
use Rattle.net_parts.specs.declared.roads.Turn.{Turn}
use Rattle.net_parts.specs.Bounds.{IsBoundedNode}
use Rattle.net_parts.specs.FirstFaults.{FailsNumbers, IsKnownNode, IsKnownLink, IsKnownConflict, IsUnknownInNode, IsUnknownInLink, IsUnknownFault}
use Rattle.net_parts.specs.Numbers.{Net, AreDistinct, phases_of, also_of, plan_of, conflict_of, roads_of, node_names, link_names, numbered}
use Rattle.net_build.specs.Outcome.{IsUnknownAt, Makes}
use Rattle.net_parts.specs.Parts.{IsNetOf}
use Rattle.net_build.specs.Stages.{AreNames, AreTables}
use Rattle.net_parts.proofs.DraftParts.{roads_parts}
use Rattle.net_build.proofs.FirstFaults.{FailsNumbers-unknown, IsUnknownAt-weaker, IsUnknownFault-link}
use Rattle.net_parts.proofs.Known.{nodes-known, links-known, own_names}
use Rattle.net_build.proofs.Outline.{phases-few}

-- the network of a draft with these lists
abbrev net_by : Draft → List (List (List ℕ)) → List (List (List ℕ)) → List Link × List (List Turn) × List (List ℕ) → List (ℕ × ℕ) → List (List Phase) → Net
net_by d phase_links also_links roads conflicts plans = record { run = d.run; node_names = node_names d; plans = plans; phase_links = phase_links; also_links = also_links; link_names = link_names d; links = roads.0; turns = roads.1; yields = roads.2; conflicts = conflicts }

module _ (d : Draft) (nodes links : List (List ℕ)) where
  -- a fault of a phase is one of the draft
  pub fault-phase : links ≡ link_names d → (ns : List DraftNode) → ns ≡ d.nodes → (fault : NetFault)
      → IsUnknownAt (λ place. (place.part ≡ AtPhase) × FromOne (IsFirstAt (IsKnownNode links) (λ n. IsUnknownInNode links n place.sub) ns) place.item) fault
      → IsUnknownAt (λ place. IsUnknownFault d place.part place.item place.sub) fault
  fault-phase named ns same fault h = IsUnknownAt-weaker _ _ fault (λ place why. rw why.0 (rw (named, same) at why.1)) h

  -- the lists by the names of a draft are its network
  pub named-net : AreNames d nodes links → (phase_links also_links : List (List (List ℕ))) (roads : List Link) (turns : List (List Turn)) (yields : List (List ℕ)) (conflicts : List (ℕ × ℕ)) (plans : List (List Phase)) → numbered d ≡ Some (net_by d phase_links also_links (roads, turns, yields) conflicts plans)
      → IsNetOf d (record { run = d.run; node_names = nodes; plans = plans; phase_links = phase_links; also_links = also_links; link_names = links; links = roads; turns = turns; yields = yields; conflicts = conflicts })
  named-net are phase_links also_links roads turns yields conflicts plans made = rw (are.nodes, are.links) (record { node_names = are.nodes_differ; link_names = are.links_differ; numbers = made })

  -- names that were added, whatever is made by them
  pub names-after : {X : Type 0} (result : Result X NetFault) (ns : List DraftNode) → ns ≡ d.nodes → (ls : List DraftLink) → ls ≡ d.links
      → nodes ≡ map (λ n. n.name) ns → links ≡ map (λ l. l.name) ls → AreDistinct (map (λ n. n.name) ns) → AreDistinct (map (λ l. l.name) ls) → OnOk result (AreNames d nodes links)
  names-after (Ok x) ns kept ls same named joined differ apart = record { nodes = rw kept at named; links = rw same at joined; nodes_differ = rw kept at differ; links_differ = rw same at apart }
  names-after (Err fault) ns kept ls same named joined differ apart = tt

  module _ (phase_links also_links : List (List (List ℕ))) (are : AreTables d nodes links phase_links also_links) where
    known_nodes : All (IsKnownNode (link_names d)) d.nodes
    known_nodes = nodes-known (link_names d) d.nodes phase_links also_links are.phases are.also

    -- each node has its phases
    pub tables-nodes : length nodes ≤ length phase_links
    tables-nodes = rw (are.nodes, length-map, each-length (phases_of (link_names d)) d.nodes phase_links are.phases) (omega arith)

    pub tables-phases : All IsBoundedNode d.nodes → All (λ phases. length phases ≤ 4) phase_links
    tables-phases bounds = phases-few (link_names d) d.nodes phase_links bounds are.phases

    -- each link has the name of a link
    pub tables-own : (ls : List DraftLink) → ls ≡ d.links → All (λ l. Contains links l.name) ls
    tables-own ls same = rw (same, are.links) (own_names d.links)

    -- a fault of a link is one of the draft
    pub fault-road : (ls : List DraftLink) → ls ≡ d.links → (fault : NetFault)
        → IsUnknownAt (λ place. FromOne (IsFirstAt (IsKnownLink nodes links) (λ l. IsUnknownInLink nodes links l place.part place.sub) ls) place.item) fault
        → IsUnknownAt (λ place. IsUnknownFault d place.part place.item place.sub) fault
    fault-road ls same fault h =
        IsUnknownAt-weaker _ _ fault (λ place why. IsUnknownFault-link d known_nodes place.part place.item place.sub (rw (are.nodes, are.links, same) at why)) h

    module _ (ls : List DraftLink) (same : ls ≡ d.links) (roads : List Link × List (List Turn) × List (List ℕ)) (made : roads_of nodes links phase_links ls ≡ Some roads) where
      own_roads : roads_of (node_names d) (link_names d) phase_links d.links ≡ Some roads
      own_roads = rw (are.nodes, are.links, same) at made

      known_links : All (IsKnownLink (node_names d) (link_names d)) d.links
      known_links =
          let parts = roads_parts (node_names d) (link_names d) phase_links d.links roads own_roads in
          links-known (link_names d) (node_names d) phase_links d.links roads.0 roads.1 roads.2 parts.0 parts.1 parts.2

      -- a fault of a conflict is one of the draft
      pub fault-conflict : (cs : List DraftConflict) → cs ≡ d.conflicts → (fault : NetFault)
          → IsUnknownAt (λ place. (place.part ≡ AtConflict) × (place.sub ≡ 0) × FromOne (IsFirstNot (IsKnownConflict links) cs) place.item) fault
          → IsUnknownAt (λ place. IsUnknownFault d place.part place.item place.sub) fault
      fault-conflict cs alike fault h =
          IsUnknownAt-weaker _ _ fault (λ place why. rw why.0 (why.1, known_nodes, known_links, rw (are.links, alike) at why.2)) h

      -- all lists together are the network
      pub numbers-all : (cs : List DraftConflict) → cs ≡ d.conflicts → (ns : List DraftNode) → ns ≡ d.nodes → (conflicts : List (ℕ × ℕ)) (plans : List (List Phase))
          → each (conflict_of links) cs ≡ Some conflicts → plans ≡ map plan_of ns → numbered d ≡ Some (net_by d phase_links also_links roads conflicts plans)
      unfolding numbered
      numbers-all cs alike ns kept conflicts plans pairs are_plans =
          let own : each (conflict_of (link_names d)) d.conflicts ≡ Some conflicts = rw (are.links, alike) at pairs in
          rw (are.phases, are.also, own_roads, own, are_plans, kept) refl

-- what was made is the network
pub made-after : {X : Type 0} (view : X → Net) (d : Draft) (result : Result X NetFault) → Makes view result (numbered d) (λ place. IsUnknownFault d place.part place.item place.sub) → IfOk result (λ made. numbered d ≡ Some (view made))
made-after view d (Ok made) h = h
made-after view d (Err fault) h = tt

-- where it is not made, the draft fails
pub fails-after : {X : Type 0} (view : X → Net) (d : Draft) (result : Result X NetFault) → AreDistinct (node_names d) → AreDistinct (link_names d) → Makes view result (numbered d) (λ place. IsUnknownFault d place.part place.item place.sub)
    → IfErr result (FailsNumbers d)
fails-after view d (Ok made) nodes links h = tt
fails-after view d (Err fault) nodes links h = FailsNumbers-unknown d nodes links _ fault (λ place why. why) h
