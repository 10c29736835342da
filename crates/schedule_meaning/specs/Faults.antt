-- Why a problem is no instance, and why a sequence is not feasible: in each case the first fault, in a fixed order.
use Rattle.std.specs.Prelude.{◌≡◌, ◌≢◌, ℕ, ◌+◌, ◌-◌, ◌<◌, ◌≤◌, ◌⊎◌, List, [], ◌∷◌, length, take, All, sum, slice_index, Option, Some, Err}
use Rattle.std.specs.Result.{result_ok}
use Rattle.phase_plan.specs.declared.Phase.{Phase}
use Rattle.switch_rules.specs.Bounds.{latest_arrival, most_clusters, most_orders}
use Rattle.switch_rules.specs.Serving.{IsHead, IsCluster, serving}
use Rattle.switch_rules.specs.Orders.{one_less, orders}
use Rattle.switch_rules.specs.declared.Head.{Head}
use Rattle.switch_rules.specs.declared.Cluster.{Cluster}
use Rattle.switch_rules.specs.declared.Unfit.{Unfit}
use Rattle.schedule_meaning.specs.Instances.{Problem, IsSpaced, cluster_at, counts_of, list_at}
use Rattle.foundation.specs.Firsts.{IsFirstAt, IsFirstNot, IsFirstWithout, FromOne}
use Rattle.foundation.specs.Options.{◌>>=◌}
use Rattle.schedule_meaning.specs.Timing.{next_cluster, times_of}
use Rattle.schedule_meaning.specs.declared.faults.InstanceFault.{InstanceFault}
use Rattle.schedule_meaning.specs.declared.faults.InstanceFault.TheVariants.{HeadPhase, HeadTime, ListCount, ClusterBound, Order, Many}
use Rattle.schedule_meaning.specs.declared.faults.SeqFault.{SeqFault}
use Rattle.schedule_meaning.specs.declared.faults.SeqFault.TheVariants.{WrongCount}
use Rattle.schedule_meaning.specs.declared.faults.SeqFault.TheVariants as fault

-- a head of the plan that began in time
abbrev pub IsStart : List Phase → Head → Type 0
IsStart plan head = IsHead plan head × (head.since ≤ latest_arrival)

-- the head's phase is none of the plan, or else its times are out of bounds
abbrev pub IsHeadFault : List Phase → Head → InstanceFault → Type 0
IsHeadFault plan head HeadPhase = length plan ≤ head.phase
IsHeadFault plan head HeadTime = (head.phase < length plan) × ¬ IsStart plan head
IsHeadFault plan head _ = ⊥

-- the first list with a cluster out of bounds, from 0, and the number of the first such cluster in it, from 1
abbrev pub IsBoundFault : List (List Cluster) → InstanceFault → Type 0
IsBoundFault lists (ClusterBound phase place) =
    IsFirstAt (All IsCluster) (λ list. FromOne (IsFirstNot IsCluster list) place) lists phase
IsBoundFault lists _ = ⊥

-- the cluster at this index, where one stands before it, does not arrive before that one has arrived whole
abbrev pub IsSpacedAt : List Cluster → ℕ → Type 0
IsSpacedAt list index =
    1 ≤ index → (cluster_at list (index - 1)).arr + (cluster_at list (index - 1)).len ≤ (cluster_at list index).arr

-- the first list that is not spaced, from 0, and the number of the first cluster in it that arrives too early, from 1
abbrev pub IsOrderFault : List (List Cluster) → InstanceFault → Type 0
IsOrderFault lists (Order phase place) =
    IsFirstAt IsSpaced (λ list. FromOne (IsFirstWithout (IsSpacedAt list) (length list)) place) lists phase
IsOrderFault lists _ = ⊥

-- there are too many clusters, or too many orders of them
abbrev pub AreMany : List (List Cluster) → Type 0
AreMany lists = (most_clusters < sum (counts_of lists)) ⊎ (most_orders < length (orders (counts_of lists)))

-- why a problem with a plan is no instance: the first of the head's faults, of the number of lists, of the bounds of
-- clusters, of their order, and of their number
abbrev pub IsInstanceFault : Problem → InstanceFault → Type 0
IsInstanceFault p HeadPhase = IsHeadFault p.plan p.head HeadPhase
IsInstanceFault p HeadTime = IsHeadFault p.plan p.head HeadTime
IsInstanceFault p ListCount = IsStart p.plan p.head × (length p.lists ≢ length p.plan)
IsInstanceFault p (ClusterBound phase place) =
    IsStart p.plan p.head × (length p.lists ≡ length p.plan) × IsBoundFault p.lists (ClusterBound phase place)
IsInstanceFault p (Order phase place) =
    IsStart p.plan p.head × (length p.lists ≡ length p.plan) × All (All IsCluster) p.lists
    × IsOrderFault p.lists (Order phase place)
IsInstanceFault p Many =
    IsStart p.plan p.head × (length p.lists ≡ length p.plan) × All (All IsCluster) p.lists × All IsSpaced p.lists
    × AreMany p.lists

-- how many clusters are left, and the head, after fit servings; none where one is unfit or has no cluster
abbrev pub reached_from : Problem → List ℕ → Head → List ℕ → Option (List ℕ × Head)
reached_from p left head [] = Some (left, head)
reached_from p left head (k ∷ ks) = do
  cluster ← next_cluster p.lists left k
  served ← result_ok (serving p.plan head k cluster)
  reached_from p (one_less left k) served.1 ks

-- the serving after these is unfit
pub record IsUnfitAt (p : Problem) (before : List ℕ) (phase : ℕ) (why : Unfit) : Type 0 where
  pub left : List ℕ
  pub h : Head
  pub cluster : Cluster
  pub reached : reached_from p (counts_of p.lists) p.head before ≡ Some (left, h)
  pub next : next_cluster p.lists left phase ≡ Some cluster
  pub unfit : serving p.plan h phase cluster ≡ Err why

-- why a sequence is not feasible: the first number that is no phase, or else the least phase that it has not as often
-- as it has clusters, or else the first serving that is unfit
abbrev pub IsSeqFault : Problem → List ℕ → SeqFault → Type 0
IsSeqFault p sequence (fault.Phase place) =
    FromOne (IsFirstAt (λ k. k < length p.plan) (λ k. length p.plan ≤ k) sequence) place
IsSeqFault p sequence (WrongCount phase) =
    All (λ k. k < length p.plan) sequence
    × IsFirstWithout (λ k. times_of k sequence ≡ length (list_at p.lists k)) (length p.plan) phase
IsSeqFault p sequence (fault.Unfit place why) =
    All (λ k. k < length p.plan) sequence × ((k : ℕ) → times_of k sequence ≡ length (list_at p.lists k))
    × (1 ≤ place) × (place ≤ length sequence)
    × IsUnfitAt p (take (place - 1) sequence) (slice_index sequence (place - 1)) why
