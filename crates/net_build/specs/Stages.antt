-- The stages from a draft to its numbers. No public clause names these.
use Rattle.std.specs.Prelude.{◌≡◌, ℕ, List, Option, Some}
use Rattle.foundation.specs.Options.{◌>>=◌, each}
use Rattle.net_parts.specs.declared.drafts.Draft.{Draft}
use Rattle.net_parts.specs.declared.drafts.DraftNode.{DraftNode}
use Rattle.net_parts.specs.declared.drafts.DraftPhase.{DraftPhase}
use Rattle.net_build.specs.declared.numbering.Lists.{Lists}
use Rattle.net_parts.specs.Numbers.{Net, AreDistinct, number_of, phases_of, also_of, node_names, link_names}

-- the names of the nodes and the links of a draft, no two of which are the same
pub record AreNames (d : Draft) (ns ls : List (List ℕ)) : Type 0 where
  pub nodes : ns ≡ node_names d
  pub links : ls ≡ link_names d
  pub nodes_differ : AreDistinct (node_names d)
  pub links_differ : AreDistinct (link_names d)

-- the names of a draft, and the links of each phase of each node
pub record AreTables (d : Draft) (ns ls : List (List ℕ)) (phase_links also_links : List (List (List ℕ))) : Type 0 where
  pub nodes : ns ≡ node_names d
  pub links : ls ≡ link_names d
  pub phases : each (phases_of (link_names d)) d.nodes ≡ Some phase_links
  pub also : each (also_of (link_names d)) d.nodes ≡ Some also_links

-- for each of these phases the links that it serves, and those that it names also
unfoldable pub phase_greens_of : List (List ℕ) → List DraftPhase → Option (List (List ℕ) × List (List ℕ))
phase_greens_of links phases = do
  serves ← each (λ p. each (number_of links) p.links) phases
  also ← each (λ p. each (number_of links) p.also) phases
  Some (serves, also)

-- for each phase of each node the links that it serves, and those that it names also
unfoldable pub greens_of : List (List ℕ) → List DraftNode → Option (List (List (List ℕ)) × List (List (List ℕ)))
greens_of links nodes = do
  serves ← each (phases_of links) nodes
  also ← each (also_of links) nodes
  Some (serves, also)

-- the network of a draft with these lists
abbrev pub net_with : Draft → List (List (List ℕ)) → List (List (List ℕ)) → Lists → Net
net_with d phase_links also_links lists =
    record {
      run = d.run;
      node_names = node_names d;
      plans = lists.plans.items;
      phase_links = phase_links;
      also_links = also_links;
      link_names = link_names d;
      links = lists.roads.links.items;
      turns = lists.roads.turns.items;
      yields = lists.roads.yields.items;
      conflicts = lists.conflicts.items;
    }
