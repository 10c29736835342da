-- What is seen of the links at a node.
use Rattle.std.proofs.Common.{◌≡◌, ℕ, zero, suc, ◌<◌, cond, nat_eq, List, [], ◌∷◌, Some, Contains, find, map, length, get_or, ne_eqb, sym, ap, ◌∙◌, inl, inr, arith}
use Rattle.std.proofs.lemmas.Bool.{cases_eq, cases_lt, eq-eqb}
use Rattle.std.proofs.lemmas.List.{get_or_past}
use Rattle.std.proofs.lemmas.Option.{none-some}
use Rattle.net_parts.specs.declared.roads.Link.{Link}
use Rattle.net_parts.specs.Numbers.{Net, no_link}
use Rattle.net_parts.specs.Outline.{link_at}
use Rattle.net_simulator.specs.Flow.{Cumulative}
use Rattle.net_simulator.specs.Senses.{link_sense}
use Rattle.road_net.proofs.AtSide.{links_of_node-are}
use Rattle.road_net.specs.Joins.{node_at, links_of_node}
use Rattle.road_net.specs.Joins as joins
use Rattle.road_net.specs.Network.{IsNetwork, entry_links}
use Rattle.road_net.specs.declared.senses.LinkSense.{LinkSense}

-- a link with a node at its end is one of the network
pub link-inside : (net : Net) → IsNetwork net → (l node : ℕ) → (link_at net l).to ≡ Some node → l < length net.link_names
link-inside net network l node to = elim (cases_lt l (length net.links)) [
  | inl inside ↦ (let e = network.outline.road_count in omega arith)
  | inr past ↦ absurd (none-some node (sym (ap (λ (k : Link). k.to) (get_or_past net.links l no_link past)) ∙ to))
]

-- the links at a node are all that end there
all-at : (side : _) (links : List Link) (n : ℕ) → (l : ℕ) → l < length links → node_at side (joins.link_at links l) ≡ Some n → Contains (links_of_node side links n) l
all-at side links n = (links_of_node-are side n links).all

entry-all : (net : Net) (n : ℕ) → (l : ℕ) → l < length net.links → (link_at net l).to ≡ Some n → Contains (entry_links net n) l
entry-all net n = search (all-at)

-- and it is an entry link of the node
pub entry-of : (net : Net) → IsNetwork net → (l node : ℕ) → l < length net.link_names → (link_at net l).to ≡ Some node → Contains (entry_links net node) l
entry-of net network l node inside to = entry-all net node l (let e = network.outline.road_count in omega arith) to

-- what is seen of a link is found among what is seen of some
pub found-of : (net : Net) (past : ℕ → ℕ → Cumulative) (n : ℕ) (links : List ℕ) (l : ℕ) → Contains links l → find (λ (s : LinkSense). nat_eq s.link l) (map (link_sense net past n) links) ≡ Some (link_sense net past n l)
found-of net past n links l contained = at contained.0 links contained.1 contained.2
  where
    at : (i : ℕ) (ls : List ℕ) → i < length ls → get_or ls i l ≡ l → find (λ s. nat_eq s.link l) (map (link_sense net past n) ls) ≡ Some (link_sense net past n l)
    at i [] inside is = absurd (omega (arith, inside))
    at zero (k ∷ ks) inside is = ap (λ b. cond b (Some (link_sense net past n k)) (find (λ s. nat_eq s.link l) (map (link_sense net past n) ks))) (eq-eqb k l is) ∙ ap (λ j. Some (link_sense net past n j)) is
    at (suc i) (k ∷ ks) inside is = elim (cases_eq k l) [
      | inl e ↦ ap (λ b. cond b (Some (link_sense net past n k)) (find (λ s. nat_eq s.link l) (map (link_sense net past n) ks))) (eq-eqb k l e) ∙ ap (λ j. Some (link_sense net past n j)) e
      | inr ne ↦ ap (λ b. cond b (Some (link_sense net past n k)) (find (λ s. nat_eq s.link l) (map (link_sense net past n) ks))) (ne_eqb k l ne) ∙ at i ks (omega (arith, inside)) is
    ]
