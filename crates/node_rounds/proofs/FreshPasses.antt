-- What is so of new passes: that they have made no call, and calls enough, as a run in threads asks; and what that is by their place.
use Rattle.std.proofs.Common.{◌≡◌, ℕ, zero, suc, ◌+◌, ◌*◌, ◌<◌, ◌≤◌, List, [], length, map, get_or, refl, subst, ap, ◌∙◌, arith}
use Rattle.std.specs.Prelude.{All, IfSome, slice_get}
use Rattle.std.specs.List.{range_with_len}
use Rattle.std.proofs.lemmas.List.FromFn.{get_or-map-range_with_len, length-map-range_with_len}
use Rattle.std.proofs.lemmas.Option.{slice_get-get_or}
use Rattle.atomic_table.specs.Seated.{TableId}
use Rattle.link_boards.specs.Passes.{PassView, fresh_at, fresh_passes}
use Rattle.link_boards.proofs.CloseLaws.{all-if}
use Rattle.histories.specs.Steps.{board_steps}
use Rattle.net_parts.specs.Numbers.{Net}
use Rattle.node_rounds.specs.Calls.{HaveCallsLeft, node_calls}

-- what is so of the new pass of each number is so of each of them
at-each : (P : ℕ → PassView → Type 0) (id : TableId) (calls : List ℕ) (from count k n : ℕ) → from + k ≡ n → ((number : ℕ) → number < from + count → P number (fresh_at id calls number))
    → IfSome (slice_get (map (fresh_at id calls) (range_with_len from count)) k) (P n)
at-each P id calls from zero k n there all = tt
at-each P id calls from (suc count) zero n there all = let same : from ≡ n = omega arith in subst (λ m. P m (fresh_at id calls from)) same (all from (omega arith))
at-each P id calls from (suc count) (suc k) n there all = at-each P id calls (from + 1) count k n (omega arith) (λ number less. all number (omega arith))

-- new passes have made no call
pub fresh-none : (id : TableId) (calls : List ℕ) → All (λ (p : PassView). p.calls ≡ []) (fresh_passes id calls)
fresh-none id calls = all-if (λ (p : PassView). p.calls ≡ []) (fresh_passes id calls) (λ k. at-each (λ _ (p : PassView). p.calls ≡ []) id calls 0 (length calls) k k (omega arith) (λ number less. refl))

-- there are as many as there are numbers of calls
pub fresh-count : (id : TableId) (calls : List ℕ) → length (fresh_passes id calls) ≡ length calls
fresh-count id calls = length-map-range_with_len (fresh_at id calls) 0 (length calls)

-- for each node one
pub node-count : (net : Net) → length (node_calls net) ≡ length net.node_names
node-count net = length-map-range_with_len (λ node. net.run.rounds * length (board_steps net node)) 0 (length net.node_names)

-- and for each node a number of calls in a list that was made of them
pub calls-count : (net : Net) (calls made : List ℕ) → calls ≡ made → made ≡ node_calls net → length calls ≡ length net.node_names
calls-count net calls made same are = ap length (same ∙ are) ∙ node-count net

-- where each has the calls of its node, they have enough
pub fresh-left : (net : Net) (id : TableId) → HaveCallsLeft net (fresh_passes id (node_calls net))
fresh-left net id node =
    at-each (λ n (p : PassView). net.run.rounds * length (board_steps net n) ≤ p.left) id (node_calls net) 0 (length (node_calls net)) node node (omega arith)
    (λ number less. let inside : number < length net.node_names = omega (arith, node-count net) in
    let is = get_or-map-range_with_len (λ n. net.run.rounds * length (board_steps net n)) 0 (length net.node_names) number number 0 inside (omega arith) in omega arith)

-- the calls left of a pass by its place
pub left-at : (net : Net) (passes : List PassView) → HaveCallsLeft net passes → length passes ≡ length net.node_names → (node : ℕ) (p : PassView) → node < length net.node_names → net.run.rounds * length (board_steps net node) ≤ (get_or passes node p).left
left-at net passes left all node p below = subst (λ o. IfSome o (λ (q : PassView). net.run.rounds * length (board_steps net node) ≤ q.left)) (slice_get-get_or passes node p (omega arith)) (left node)
