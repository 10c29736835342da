-- The board steps of the nodes of a network.
use Rattle.std.proofs.Common.{◌≡◌, ℕ, ◌+◌, ◌-◌, ◌<◌, ◌≤◌, Bool, true, List, [], ◌∷◌, ◌++◌, Option, Some, None, false, suc, cond, ne_eqb, length, map, filter, get_or, is_some, All, refl, sym, ap, subst, ◌∙◌, inl, inr, arith, length-append}
use Rattle.std.proofs.lemmas.Bool.{cases_lt}
use Rattle.std.proofs.lemmas.List.{get_or_append_left, get_or-append_right, get_or-map, length-map}
use Rattle.std.specs.Prelude.{IfSome}
use Rattle.std.specs.List.Sorted.{IsStrictlyIncreasing}
use Rattle.board_model.proofs.ForBoards.{rising-few}
use Rattle.net_parts.specs.Limits.{most_links}
use Rattle.net_parts.specs.Numbers.{Net}
use Rattle.net_parts.specs.Outline.{link_at}
use Rattle.net_parts.specs.declared.roads.Link.{Link}
use Rattle.road_net.specs.Joins.{is_node, node_at, links_from}
use Rattle.std.proofs.lemmas.List.Elements.{All-tail}
use Rattle.road_net.specs.Network.{IsNetwork, AreApart, entry_links, exit_links, heard_links, told_links}
use Rattle.histories.specs.declared.steps.BoardStep.TheVariants.{Read, Publish}
use Rattle.histories.specs.declared.steps.BoardStep.{BoardStep}
use Rattle.histories.specs.declared.steps.Side.TheVariants.{Begin, End}
use Rattle.histories.specs.Sides.{has_node, step_across}
use Rattle.histories.specs.Steps.{board_steps}

-- rising numbers of links are few
pub links-few : (net : Net) (links : List ℕ) → IsNetwork net → IsStrictlyIncreasing links → All (λ l. l < length net.links) links → length links ≤ most_links
links-few net links network rising exist = let few = network.outline.link_count.1 in omega (arith, rising-few links (length net.links) rising exist, network.outline.road_count)

-- a node has as many steps as it hears and tells on links, and few
pub step-count : (net : Net) (node : ℕ) → length (board_steps net node) ≡ length (heard_links net node) + length (told_links net node)
step-count net node = length-append (map Read (heard_links net node)) (map Publish (told_links net node)) ∙ ap (λ n. n + length (map Publish (told_links net node))) (length-map (heard_links net node) Read) ∙ ap (λ n. length (heard_links net node) + n) (length-map (told_links net node) Publish)

pub steps-few : (net : Net) (node : ℕ) → IsNetwork net → AreApart net node → length (board_steps net node) ≤ most_links
steps-few net node network apart = let few = network.outline.link_count.1 in omega (arith, step-count net node, apart.few)

-- the steps of a node that are Reads come first
pub read-step : (net : Net) (n k : ℕ) → k < length (heard_links net n) → get_or (board_steps net n) k (Read 0) ≡ Read (get_or (heard_links net n) k 0)
read-step net n k inside =
    get_or_append_left (map Read (heard_links net n)) (map Publish (told_links net n)) (Read 0) k (omega (arith, length-map (heard_links net n) Read))
    ∙ get_or-map Read (heard_links net n) k 0 (Read 0) inside

link_of : BoardStep → ℕ
link_of (Read l) = l
link_of (Publish l) = l

is_read : BoardStep → Bool
is_read (Read l) = true
is_read (Publish l) = false

pub read-first : (net : Net) (n k l : ℕ) → k < length (board_steps net n) → get_or (board_steps net n) k (Read 0) ≡ Read l → (k < length (heard_links net n)) × (get_or (heard_links net n) k 0 ≡ l)
unfolding link_of is_read
read-first net n k l inside is = elim (cases_lt k (length (heard_links net n))) [
  | inl first ↦ (first, ap link_of (sym (read-step net n k first) ∙ is))
  | inr past ↦ absurd (
      let reads : length (map Read (heard_links net n)) ≡ length (heard_links net n) = length-map (heard_links net n) Read in
      let j : ℕ = k - length (map Read (heard_links net n)) in
      let long = length-append (map Read (heard_links net n)) (map Publish (told_links net n)) in
      let told : length (map Publish (told_links net n)) ≡ length (told_links net n) = length-map (told_links net n) Publish in
      let e : Publish (get_or (told_links net n) j 0) ≡ Read l =
      sym (get_or-append_right (map Read (heard_links net n)) (map Publish (told_links net n)) (length (map Read (heard_links net n))) k (Read 0) refl (omega arith)
      ∙ get_or-map Publish (told_links net n) j 0 (Read 0) (omega arith))
      ∙ is in
      never (ap is_read e))
]
  where
    never : false ≡ true → ⊥
    never e = cc

-- the counts of the two sides
pub count-both : (net : Net) (node heard told : ℕ) (entry exit : List ℕ) → entry ≡ entry_links net node → exit ≡ exit_links net node → heard ≡ length (filter (λ l. is_some (link_at net l).from) entry) → told ≡ length (filter (λ l. is_some (link_at net l).to) exit) → heard + told ≡ length (board_steps net node)
count-both net node heard told entry exit e x h t = omega (arith, h, t, step-count net node, ap (λ l. length (filter (λ k. is_some (link_at net k).from) l)) e, ap (λ l. length (filter (λ k. is_some (link_at net k).to) l)) x)

-- the steps on the links of the two sides
pub steps-both : (net : Net) (node : ℕ) (none first all : List BoardStep) (entry exit : List ℕ) → none ≡ [] → entry ≡ entry_links net node → exit ≡ exit_links net node
    → first ≡ none ++ map (step_across Begin) (filter (has_node net Begin) entry) → all ≡ first ++ map (step_across End) (filter (has_node net End) exit) → all ≡ board_steps net node
steps-both net node none first all entry exit n e x f a =
    a
    ∙ ap (λ steps. steps ++ map (step_across End) (filter (has_node net End) exit)) (f ∙ ap (λ steps. steps ++ map (step_across Begin) (filter (has_node net Begin) entry)) n)
    ∙ ap (λ links. map (step_across Begin) (filter (has_node net Begin) links) ++ map (step_across End) (filter (has_node net End) exit)) e
    ∙ ap (λ links. map Read (heard_links net node) ++ map (step_across End) (filter (has_node net End) links)) x

no-one : (xs : List ℕ) → All (λ x. ⊥) xs → xs ≡ []
no-one [] none = refl
no-one (x ∷ xs) none = absurd (none 0 x (omega arith))

-- no link has a node that there is not
module _ (net : Net) (network : IsNetwork net) (node : ℕ) (past : length net.node_names ≤ node) where
  within : (o : Option ℕ) → IfSome o (λ n. n < length net.node_names) → o ≡ Some node → ⊥
  within o below e = let less : node < length net.node_names = subst (λ (p : Option ℕ). IfSome p (λ n. n < length net.node_names)) e below in omega arith

  none-from : (side : _) (first : ℕ) (links : List Link) → All (λ l. node_at side l ≡ Some node → ⊥) links → links_from side node first links ≡ []
  none-from side first [] none = refl
  none-from side first (l ∷ ls) none = ap (λ b. cond b (first ∷ links_from side node (suc first) ls) (links_from side node (suc first) ls)) (not-it (node_at side l) (none 0 l (omega arith))) ∙ none-from side (suc first) ls (All-tail (λ l. node_at side l ≡ Some node → ⊥) l ls none)
    where
      not-it : (o : Option ℕ) → (o ≡ Some node → ⊥) → is_node node o ≡ false
      not-it None other = refl
      not-it (Some n) other = ne_eqb n node (λ e. other (ap Some e))

  to-others : All (λ l. l.to ≡ Some node → ⊥) net.links
  to-others k d inside = within _ (network.outline.links k d inside).to

  from-others : All (λ l. l.from ≡ Some node → ⊥) net.links
  from-others k d inside = within _ (network.outline.links k d inside).from

  no-entry : entry_links net node ≡ []
  no-entry = search (none-from, to-others)

  no-exit : exit_links net node ≡ []
  no-exit = search (none-from, from-others)

  -- so it has no steps
  pub steps-beyond : board_steps net node ≡ []
  steps-beyond = ap (λ l. map Read (filter (λ k. is_some (link_at net k).from) l) ++ map Publish (told_links net node)) no-entry ∙ ap (λ l. map Publish (filter (λ k. is_some (link_at net k).to) l)) no-exit
