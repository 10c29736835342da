-- The entry and exit links of a node.
use Rattle.std.proofs.Common.{◌≡◌, ℕ, suc, ◌+◌, ◌≤◌, Bool, true, false, cond, List, [], ◌∷◌, length, filter, is_some, All, refl, sym, ◌∙◌, arith}
use Rattle.std.proofs.lemmas.List.Sums.{length-filter, count_by-le-length}
use Rattle.net_parts.specs.Numbers.{Net, no_link}
use Rattle.net_parts.specs.Outline.{link_at}
use Rattle.net_parts.specs.declared.roads.Link.{Link}
use Rattle.road_net.specs.declared.joins.Side.TheVariants.{From, To}
use Rattle.road_net.specs.Joins.{HasEnds, is_node, links_from}
use Rattle.road_net.specs.Network.{IsNetwork, AreApart, entry_links, exit_links}
use Rattle.road_net.proofs.AtSide.{is_node-true, links_of_node-are}

one_or : (b : Bool) (first : ℕ) (xs : List ℕ) → length (cond b (first ∷ xs) xs) ≡ cond b 1 0 + length xs
one_or true first xs = omega arith
one_or false first xs = omega arith

-- a link with its ends is at most at one side of a node
one_side : (node : ℕ) (l : Link) → HasEnds l → cond (is_node node l.to) 1 0 + cond (is_node node l.from) 1 0 ≤ 1
one_side node l ends = by (is_node node l.to) (is_node node l.from) refl refl
  where
    by : (a b : Bool) → is_node node l.to ≡ a → is_node node l.from ≡ b → cond (is_node node l.to) 1 0 + cond (is_node node l.from) 1 0 ≤ 1
    by true true to from = absurd (ends (is_node-true node l.from from ∙ sym (is_node-true node l.to to)))
    by true false to from = rw (to, from) (omega arith)
    by false true to from = rw (to, from) (omega arith)
    by false false to from = rw (to, from) (omega arith)

tail_ends : (l : Link) (ls : List Link) → All HasEnds (l ∷ ls) → All HasEnds ls
tail_ends l ls all k d h = all (suc k) d (omega arith)

-- both sides together have no more links than there are
both_sides : (node first : ℕ) (links : List Link) → All HasEnds links → length (links_from To node first links) + length (links_from From node first links) ≤ length links
both_sides node first [] all = omega arith
both_sides node first (l ∷ ls) all =
    let here = one_side node l (all 0 l (omega arith)) in
    let to = one_or (is_node node l.to) first (links_from To node (suc first) ls) in
    let from = one_or (is_node node l.from) first (links_from From node (suc first) ls) in
    omega (arith, here, to, from, both_sides node (suc first) ls (tail_ends l ls all))

fewer : (p : ℕ → Bool) (xs : List ℕ) → length (filter p xs) ≤ length xs
fewer p xs = omega (arith, length-filter p xs, count_by-le-length p xs)

-- of a network
pub apart : (net : Net) (n : ℕ) → IsNetwork net → AreApart net n
apart net n network = record {
  apart = λ l entry exit.
      let entries = links_of_node-are To n net.links in
      let exits = links_of_node-are From n net.links in
      let (i, below_i, at_i) = entry in
      let (j, below_j, at_j) = exit in
      let to = entries.have i l below_i in
      let from = exits.have j l below_j in
      network.joins.ends l no_link (rw at_i at to.0) ((rw at_j at from.1) ∙ sym (rw at_i at to.1));
  few = omega (arith, both_sides n 0 net.links network.joins.ends, fewer (λ l. is_some (link_at net l).from) (entry_links net n), fewer (λ l. is_some (link_at net l).to) (exit_links net n), network.outline.road_count);
}
