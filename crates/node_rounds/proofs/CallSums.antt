-- All nodes together make few calls: on each link at most one node tells, and at most one hears it.
use Rattle.std.proofs.Common.{◌≡◌, ℕ, zero, suc, ◌+◌, ◌*◌, ◌<◌, ◌≤◌, eqb, cond, Bool, true, false, List, [], ◌∷◌, ◌++◌, Option, Some, None, is_some, length, map, filter, refl, sym, ap, ◌∙◌, arith, ne_eqb}
use Rattle.std.specs.Prelude.{sum_by}
use Rattle.std.specs.List.{range_with_len, sum}
use Rattle.std.proofs.Math.Nat.{mul-add, mul-le-mul}
use Rattle.std.proofs.lemmas.List.FromFn.{map-range_with_len_more}
use Rattle.std.proofs.lemmas.List.Sums.{count_by-le-length, length-filter, sum-map, sum_by-cons, sum_by-le-sum_by}
use mathlib.Core.Logic.{dite}
use native.Mathlib.Decide.{ℕ_discrete}
use Rattle.board_model.specs.Boards.{most_versions}
use Rattle.histories.specs.Steps.{board_steps}
use Rattle.histories.proofs.StepLaws.{step-count}
use Rattle.net_parts.specs.Limits.{most_links}
use Rattle.net_parts.specs.Numbers.{Net}
use Rattle.net_parts.specs.Outline.{link_at}
use Rattle.net_parts.specs.declared.roads.Link.{Link}
use Rattle.road_net.specs.Joins.{is_node, links_from, node_at}
use Rattle.road_net.specs.Network.{IsNetwork, entry_links, exit_links}
use Rattle.node_rounds.specs.Calls.{node_calls}

-- sums of two terms each, of the same term each, and of products
sums-both : {X : Type 0} (f g : X → ℕ) (xs : List X) → sum_by (λ x. f x + g x) xs ≡ sum_by f xs + sum_by g xs
sums-both f g [] = refl
sums-both f g (x ∷ xs) = omega (arith, sums-both f g xs, sum_by-cons f x xs, sum_by-cons g x xs, sum_by-cons (λ x. f x + g x) x xs)

sums-none : {X : Type 0} (f : X → ℕ) (xs : List X) → ((x : X) → f x ≡ 0) → sum_by f xs ≡ 0
sums-none f [] none = refl
sums-none f (x ∷ xs) none = omega (arith, sums-none f xs none, sum_by-cons f x xs, none x)

sums-times : {X : Type 0} (k : ℕ) (f : X → ℕ) (xs : List X) → sum_by (λ x. k * f x) xs ≡ k * sum_by f xs
sums-times k f [] = omega arith
sums-times k f (x ∷ xs) = sum_by-cons (λ x. k * f x) x xs ∙ ap (λ n. k * f x + n) (sums-times k f xs) ∙ sym (mul-add k (f x) (sum_by f xs)) ∙ ap (λ n. k * n) (sym (sum_by-cons f x xs))

-- 1 at the number m
abbrev at : ℕ → ℕ → ℕ
at m n = cond (eqb m n) 1 0

none-from : (m a count : ℕ) → m < a → sum_by (at m) (range_with_len a count) ≡ 0
none-from m a zero below = refl
none-from m a (suc count) below =
    let none : at m a ≡ 0 = ap (λ b. cond b 1 0) (ne_eqb m a (λ e. omega arith)) in
    omega (arith, none, none-from m (a + 1) count (omega arith), sum_by-cons (at m) a (range_with_len (a + 1) count))

most-one : (b : Bool) → cond b 1 0 ≤ 1
most-one true = omega arith
most-one false = omega arith

one-from : (m a count : ℕ) → sum_by (at m) (range_with_len a count) ≤ 1
one-from m a zero = omega arith
one-from m a (suc count) = dite (ℕ_discrete m a)
    (λ same. omega (arith, most-one (eqb m a), none-from m (a + 1) count (omega arith), sum_by-cons (at m) a (range_with_len (a + 1) count)))
    (λ apart. let none : at m a ≡ 0 = ap (λ b. cond b 1 0) (ne_eqb m a apart) in omega (arith, none, one-from m (a + 1) count, sum_by-cons (at m) a (range_with_len (a + 1) count)))

-- of the nodes from 0 on, at most one stands at a side
one-node : (o : Option ℕ) (count : ℕ) → sum_by (λ n. cond (is_node n o) 1 0) (range_with_len 0 count) ≤ 1
one-node None count = omega (arith, sums-none (λ (n : ℕ). cond (is_node n None) 1 0) (range_with_len 0 count) (λ n. refl))
one-node (Some m) count = one-from m 0 count

longer : (b : Bool) (x : ℕ) (xs : List ℕ) → length (cond b (x ∷ xs) xs) ≡ cond b 1 0 + length xs
longer true x xs = omega arith
longer false x xs = omega arith

-- the links that have one of the nodes at a side are no more than there are
at-side : (side : _) (links : List Link) (first count : ℕ) → sum_by (λ n. length (links_from side n first links)) (range_with_len 0 count) ≤ length links
at-side side [] first count = omega (arith, sums-none (λ (n : ℕ). 0) (range_with_len 0 count) (λ n. refl))
at-side side (l ∷ ls) first count =
    let nodes = range_with_len 0 count in
    let each : sum_by (λ n. length (links_from side n first (l ∷ ls))) nodes ≡ sum_by (λ n. cond (is_node n (node_at side l)) 1 0 + length (links_from side n (suc first) ls)) nodes
    = λ i. sum_by (λ n. longer (is_node n (node_at side l)) first (links_from side n (suc first) ls) i) nodes in
    omega (arith, each, sums-both (λ n. cond (is_node n (node_at side l)) 1 0) (λ n. length (links_from side n (suc first) ls)) nodes, one-node (node_at side l) count, at-side side ls (suc first) count)

filter-few : (p : ℕ → Bool) (xs : List ℕ) → length (filter p xs) ≤ length xs
filter-few p xs = omega (arith, length-filter p xs, count_by-le-length p xs)

entries-few : (net : Net) (count : ℕ) → sum_by (λ n. length (entry_links net n)) (range_with_len 0 count) ≤ length net.links
entries-few net count = search (at-side)

exits-few : (net : Net) (count : ℕ) → sum_by (λ n. length (exit_links net n)) (range_with_len 0 count) ≤ length net.links
exits-few net count = search (at-side)

-- the board steps of the nodes from 0 on are at most two for each link
steps-few : (net : Net) (count : ℕ) → sum_by (λ n. length (board_steps net n)) (range_with_len 0 count) ≤ length net.links + length net.links
steps-few net count =
    let nodes = range_with_len 0 count in
    let less = sum_by-le-sum_by (λ n. length (board_steps net n)) (λ n. length (entry_links net n) + length (exit_links net n)) nodes
    (λ n. omega (arith, step-count net n, filter-few (λ l. is_some (link_at net l).from) (entry_links net n), filter-few (λ l. is_some (link_at net l).to) (exit_links net n))) in
    omega (arith, less, sums-both (λ n. length (entry_links net n)) (λ n. length (exit_links net n)) nodes, entries-few net count, exits-few net count)

-- all nodes together make no more calls in all rounds than there may be
pub calls-few : (net : Net) → IsNetwork net → sum (node_calls net) ≤ most_versions
calls-few net network =
    let nodes = range_with_len 0 (length net.node_names) in
    let steps = steps-few net (length net.node_names) in
    let few : sum_by (λ n. length (board_steps net n)) nodes ≤ 2 * most_links = let count = network.outline.link_count.1 in omega (arith, steps, network.outline.road_count, count) in
    let all = mul-le-mul network.outline.run.rounds.1 few in
    let sums : sum (node_calls net) ≡ net.run.rounds * sum_by (λ n. length (board_steps net n)) nodes
    = sum-map (λ n. net.run.rounds * length (board_steps net n)) nodes ∙ sums-times net.run.rounds (λ n. length (board_steps net n)) nodes in
    omega (arith, all, sums)

-- the calls of one node more
pub calls-more : (net : Net) (k rounds steps : ℕ) (old new : List ℕ) → new ≡ old ++ rounds * steps ∷ [] → old ≡ map (λ node. net.run.rounds * length (board_steps net node)) (range_with_len 0 k) → rounds ≡ net.run.rounds → steps ≡ length (board_steps net k)
    → new ≡ map (λ node. net.run.rounds * length (board_steps net node)) (range_with_len 0 (k + 1))
calls-more net k rounds steps old new more is same count =
    more ∙ (λ i. is i ++ same i * count i ∷ []) ∙ sym (map-range_with_len_more (λ node. net.run.rounds * length (board_steps net node)) 0 k k (omega arith))
