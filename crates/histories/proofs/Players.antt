-- Who plays on a link.
use Rattle.std.proofs.Common.{◌≡◌, ℕ, zero, suc, ◌+◌, ◌<◌, eqb, cond, Bool, true, false, List, [], ◌∷◌, ◌++◌, Option, Some, None, map, filter, get_or, is_some, refl, sym, ap, ◌∙◌, arith, eq-eqb, ne_eqb, append-nil}
use Rattle.std.proofs.lemmas.List.Elements.{filter-append}
use Rattle.net_parts.specs.Numbers.{Net, no_link}
use Rattle.net_parts.specs.Outline.{link_at}
use Rattle.net_parts.specs.declared.roads.Link.{Link}
use Rattle.road_net.specs.Joins.{is_node, node_at, links_from}
use Rattle.road_net.specs.Network.{IsNetwork, entry_links, exit_links, heard_links, told_links}
use Rattle.road_net.proofs.Apart.{apart}
use Rattle.histories.specs.declared.steps.BoardStep.{BoardStep}
use Rattle.histories.specs.declared.steps.BoardStep.TheVariants.{Read, Publish}
use Rattle.histories.specs.Steps.{is_publish_of, is_read_of, step_if, IsPlayedByEnds, AreSteps}
use Rattle.histories.proofs.StepLaws.{steps-beyond, steps-few}
use Rattle.histories.proofs.Lists.{filter-yes, filter-no, filter-comm, filter-map}

skip : (link first : ℕ) (b : Bool) (rest : List ℕ) → (first ≡ link → ⊥) → filter (λ k. eqb k link) (cond b (first ∷ rest) rest) ≡ filter (λ k. eqb k link) rest
skip link first true rest other = ap (λ b. cond b (first ∷ filter (λ k. eqb k link) rest) (filter (λ k. eqb k link) rest)) (ne_eqb first link other)
skip link first false rest other = refl

take-it : (link first : ℕ) (b : Bool) (rest : List ℕ) → first ≡ link → filter (λ k. eqb k link) rest ≡ [] → filter (λ k. eqb k link) (cond b (first ∷ rest) rest) ≡ cond b (link ∷ []) []
take-it link first true rest here none = ap (λ b. cond b (first ∷ filter (λ k. eqb k link) rest) (filter (λ k. eqb k link) rest)) (eq-eqb first link here) ∙ ap (λ l. first ∷ l) none ∙ ap (λ k. k ∷ []) here
take-it link first false rest here none = none

-- links numbered from above one do not have it
none-below : (side : _) (node link first : ℕ) (links : List Link) → link < first → filter (λ k. eqb k link) (links_from side node first links) ≡ []
none-below side node link first [] less = refl
none-below side node link first (l ∷ ls) less = skip link first (is_node node (node_at side l)) (links_from side node (suc first) ls) (λ e. omega arith) ∙ none-below side node link (suc first) ls (omega arith)

-- a link stands once among those at a side of a node, or not at all
once : (side : _) (node link first k : ℕ) (links : List Link) → node_at side no_link ≡ None → first + k ≡ link → filter (λ k. eqb k link) (links_from side node first links) ≡ cond (is_node node (node_at side (get_or links k no_link))) (link ∷ []) []
once side node link first k [] nobody e = ap (λ o. cond (is_node node o) (link ∷ []) []) (sym nobody)
once side node link first zero (l ∷ ls) nobody e = take-it link first (is_node node (node_at side l)) (links_from side node (suc first) ls) (omega arith) (none-below side node link (suc first) ls (omega arith))
once side node link first (suc k) (l ∷ ls) nobody e = skip link first (is_node node (node_at side l)) (links_from side node (suc first) ls) (λ f. omega arith) ∙ once side node link (suc first) k ls nobody (omega arith)

module _ (net : Net) (node link : ℕ) where
  once-here : (side : _) → node_at side no_link ≡ None → filter (λ k. eqb k link) (links_from side node 0 net.links) ≡ cond (is_node node (node_at side (link_at net link))) (link ∷ []) []
  once-here side nobody = once side node link 0 link net.links nobody (omega arith)

  entry-once : filter (λ k. eqb k link) (entry_links net node) ≡ cond (is_node node (link_at net link).to) (link ∷ []) []
  entry-once = search (once-here)

  exit-once : filter (λ k. eqb k link) (exit_links net node) ≡ cond (is_node node (link_at net link).from) (link ∷ []) []
  exit-once = search (once-here)

module _ (link : ℕ) where
  no-publish : (xs : List ℕ) → filter (is_publish_of link) (map Read xs) ≡ []
  no-publish [] = refl
  no-publish (x ∷ xs) = no-publish xs

  no-read : (xs : List ℕ) → filter (is_read_of link) (map Publish xs) ≡ []
  no-read [] = refl
  no-read (x ∷ xs) = no-read xs

  publishes-in : (xs ys : List ℕ) → filter (is_publish_of link) (map Read xs ++ map Publish ys) ≡ map Publish (filter (λ k. eqb k link) ys)
  publishes-in xs ys = filter-append (is_publish_of link) (map Read xs) (map Publish ys) ∙ ap (λ l. l ++ filter (is_publish_of link) (map Publish ys)) (no-publish xs) ∙ filter-map Publish (is_publish_of link) ys

  reads-in : (xs ys : List ℕ) → filter (is_read_of link) (map Read xs ++ map Publish ys) ≡ map Read (filter (λ k. eqb k link) xs)
  reads-in xs ys = filter-append (is_read_of link) (map Read xs) (map Publish ys) ∙ ap (λ l. filter (is_read_of link) (map Read xs) ++ l) (no-read ys) ∙ append-nil (filter (is_read_of link) (map Read xs)) ∙ filter-map Read (is_read_of link) xs

  -- the step, if the node is there and the other end too
  step-there : (step : ℕ → BoardStep) (p : ℕ → Bool) (node : ℕ) (end : Option ℕ) → map step (filter p (cond (is_node node end) (link ∷ []) [])) ≡ cond (p link) (step_if end node (step link)) []
  step-there step p node None = by (p link)
    where
      by : (b : Bool) → [] ≡ cond b (let none : List BoardStep = [] in none) []
      by true = refl
      by false = refl
  step-there step p node (Some n) = by (eqb n node) (p link) refl
    where
      by : (a b : Bool) → p link ≡ b → map step (filter p (cond a (link ∷ []) [])) ≡ cond (p link) (cond a (step link ∷ []) []) []
      by true true e = ap (map step) (filter-yes p link [] e) ∙ sym (ap (λ b. cond b (step link ∷ []) []) e)
      by true false e = ap (map step) (filter-no p link [] e) ∙ sym (ap (λ b. cond b (step link ∷ []) []) e)
      by false true e = sym (ap (λ b. cond b (let none : List BoardStep = [] in none) []) e)
      by false false e = sym (ap (λ b. cond b (let none : List BoardStep = [] in none) []) e)

played : (net : Net) (link : ℕ) → IsPlayedByEnds net link
played net link = record {
  publishes = λ node.
      publishes-in link (heard_links net node) (told_links net node)
      ∙ ap (map Publish) (filter-comm (λ k. eqb k link) (λ l. is_some (link_at net l).to) (exit_links net node) ∙ ap (filter (λ l. is_some (link_at net l).to)) (exit-once net node link))
      ∙ step-there link Publish (λ l. is_some (link_at net l).to) node (link_at net link).from;
  reads = λ node.
      reads-in link (heard_links net node) (told_links net node)
      ∙ ap (map Read) (filter-comm (λ k. eqb k link) (λ l. is_some (link_at net l).from) (entry_links net node) ∙ ap (filter (λ l. is_some (link_at net l).from)) (entry-once net node link))
      ∙ step-there link Read (λ l. is_some (link_at net l).from) node (link_at net link).to;
}

-- what is true of the steps of every network
pub are-steps : (net : Net) → IsNetwork net → AreSteps net
are-steps net network = record { beyond = λ node past. steps-beyond net network node past; few = λ node. steps-few net node network (apart net node network); players = played net }
