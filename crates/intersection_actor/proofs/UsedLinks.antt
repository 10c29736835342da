-- The links of versions that a plan used.
use Rattle.std.proofs.Common.{◌≡◌, ℕ, ◌<◌, List, length, get_or, map, is_some, All, sym, ap, ◌∙◌, subst, arith}
use Rattle.std.proofs.lemmas.List.{get_or-map, length-map}
use Rattle.std.proofs.lemmas.List.Elements.{All-filter, All-weaker}
use Rattle.net_parts.specs.Numbers.{Net}
use Rattle.net_parts.specs.Outline.{link_at}
use Rattle.net_parts.specs.declared.roads.Link.{Link}
use Rattle.road_net.specs.Network.{IsNetwork, entry_links, heard_links}
use Rattle.road_net.specs.Joins.{links_of_node}
use Rattle.road_net.proofs.AtSide.{links_of_node-are}
use Rattle.intersection_actor.specs.declared.records.Used.{Used}

-- the links at a side of a node are there
pub at-side : (side : _) (node : ℕ) (links : List Link) → All (λ l. l < length links) (links_of_node side links node)
at-side side node links = λ k d inside. ((links_of_node-are side node links).have k d inside).0

-- links of the network have names
pub links-named : (net : Net) → IsNetwork net → (links : List ℕ) → All (λ l. l < length net.links) links → All (λ l. l < length net.link_names) links
links-named net network links exist = All-weaker (λ l. l < length net.links) (λ l. l < length net.link_names) (λ l below. omega (arith, below, network.outline.road_count)) links exist

module _ (net : Net) (network : IsNetwork net) (node : ℕ) where
  -- the links that end at a node are there
  entries-exist : All (λ l. l < length net.link_names) (entry_links net node)
  entries-exist = links-named net network (entry_links net node) (search (at-side))

  -- those on which it hears another node, too
  pub heard-exist : All (λ l. l < length net.link_names) (heard_links net node)
  heard-exist = All-filter (λ l. is_some (link_at net l).from) (λ l. l < length net.link_names) (entry_links net node) entries-exist

  -- the links of versions are there, where they are those on which the node hears another one
  pub used-exist : (used : List Used) → map (λ (u : Used). u.link) used ≡ heard_links net node → All (λ (u : Used). u.link < length net.link_names) used
  used-exist used are k d inside =
      let at : get_or (map (λ (u : Used). u.link) used) k d.link ≡ (get_or used k d).link = get_or-map (λ (u : Used). u.link) used k d d.link inside in
      let there : k < length (heard_links net node) = omega (arith, inside, length-map used (λ (u : Used). u.link), ap length are) in
      subst (λ l. l < length net.link_names) (ap (λ ls. get_or ls k d.link) (sym are) ∙ at) (heard-exist k d.link there)
