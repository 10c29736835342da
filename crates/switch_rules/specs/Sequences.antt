-- The clusters of each phase of an intersection, and the servings of one sequence of phases.
use Rattle.std.specs.Prelude.{◌≡◌, ℕ, ◌+◌, ◌-◌, ◌<◌, ◌≤◌, ◌==◌, if◌then◌else◌, List, [], ◌∷◌, length, map, sum, slice_index, slice_index_or, slice_get, Option, Some, None, Ok}
use Rattle.std.specs.Result.{result_ok}
use Rattle.foundation.specs.Options.{◌>>=◌}
use Rattle.phase_plan.specs.declared.Phase.{Phase}
use Rattle.switch_rules.specs.Orders.{one_less}
use Rattle.switch_rules.specs.Serving.{head_after, serving}
use Rattle.switch_rules.specs.declared.Head.{Head}
use Rattle.switch_rules.specs.declared.Served.{Served}
use Rattle.switch_rules.specs.declared.Cluster.{Cluster}

-- the clusters of phase k; a phase that has no list has none
abbrev pub list_at : List (List Cluster) → ℕ → List Cluster
list_at lists k = slice_index_or lists k []

-- how many clusters each phase has
abbrev pub counts_of : List (List Cluster) → List ℕ
counts_of lists = map length lists

-- what stands where a list has no cluster
abbrev pub no_cluster : Cluster
no_cluster = record { size = 0; load = 0; arr = 0; len = 0 }

-- the cluster at index k of a list, from 0
abbrev pub cluster_at : List Cluster → ℕ → Cluster
cluster_at list k = slice_index_or list k no_cluster

-- no cluster arrives before the one before it has arrived whole
abbrev pub IsSpaced : List Cluster → Type 0
IsSpaced list =
    (k : ℕ) → k + 1 < length list → (cluster_at list k).arr + (cluster_at list k).len ≤ (cluster_at list (k + 1)).arr

-- the next cluster of phase k, given how many of each phase are left
abbrev pub next_cluster : List (List Cluster) → List ℕ → ℕ → Option Cluster
next_cluster lists left k = slice_get (list_at lists k) (length (list_at lists k) - slice_index left k)

-- a serving of phase k from a head is that of the phase's next cluster, given how many of each phase are left
pub record IsNextServing (plan : List Phase) (lists : List (List Cluster)) (left : List ℕ) (head : Head) (k : ℕ)
    (s : Served) : Type 0 where
  pub cluster : Cluster
  pub next : next_cluster lists left k ≡ Some cluster
  pub fit : serving plan head k cluster ≡ Ok (s, head_after k s)

-- these are the servings of these phases one after another: each is that of the next cluster of its phase, from the head
-- after the one before it
abbrev pub AreNextServings : List Phase → List (List Cluster) → List ℕ → Head → List ℕ → List Served → Type 0
AreNextServings plan lists left head [] [] = Unit {0}
AreNextServings plan lists left head [] (s ∷ ss) = ⊥
AreNextServings plan lists left head (k ∷ ks) [] = ⊥
AreNextServings plan lists left head (k ∷ ks) (s ∷ ss) =
    IsNextServing plan lists left head k s × AreNextServings plan lists (one_less left k) (head_after k s) ks ss

-- the servings of a sequence of phases from a head, given how many clusters of each phase are left, and the head after
-- them: each number serves the next cluster of its phase. There are none where a number has no cluster left, a serving is
-- unfit, or a cluster is left at the end
abbrev pub timed_from : List Phase → List (List Cluster) → List ℕ → Head → List ℕ → Option (List Served × Head)
timed_from plan lists left head [] = if sum left == 0 then Some ([], head) else None
timed_from plan lists left head (k ∷ ks) = do
  cluster ← next_cluster lists left k
  served ← result_ok (serving plan head k cluster)
  rest ← timed_from plan lists (one_less left k) served.1 ks
  Some (served.0 ∷ rest.0, rest.1)
