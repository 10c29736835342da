-- How one cluster is served from a head.
use Rattle.std.specs.Prelude.{◌≡◌, ℕ, ◌+◌, ◌-◌, ◌*◌, ◌<◌, ◌≤◌, Bool, true, false, ◌&&◌, ◌==◌, nat_lt, nat_le, max, if◌then◌else◌, List, length, Result, Ok, Err}
use Rattle.phase_plan.specs.Phases.{phase_at, switch_time}
use Rattle.phase_plan.specs.declared.Phase.{Phase}
use Rattle.switch_rules.specs.Bounds.{greatest_cost, greatest_size, greatest_weight, latest_arrival, latest_finish}
use Rattle.switch_rules.specs.declared.Head.{Head}
use Rattle.switch_rules.specs.declared.Cluster.{Cluster}
use Rattle.switch_rules.specs.declared.Served.{Served}
use Rattle.switch_rules.specs.declared.Unfit.{Unfit}
use Rattle.switch_rules.specs.declared.Unfit.TheVariants.{TooLong, TooLate}

-- a head of the plan: its phase exists, and its time lies within the greatest green
pub record IsHead (plan : List Phase) (head : Head) : Type 0 where
  pub phase : head.phase < length plan
  pub begun : head.since ≤ head.at
  pub within : head.at ≤ head.since + (phase_at plan head.phase).greatest

-- a cluster within its bounds
pub record IsCluster (c : Cluster) : Type 0 where
  pub size : (1 ≤ c.size) × (c.size ≤ greatest_size)
  pub load : (c.size ≤ c.load) × (c.load ≤ greatest_weight * c.size)
  pub arr : c.arr ≤ latest_arrival
  pub len : (1 ≤ c.len) × (c.len ≤ 240)

-- when the cluster starts if the green of the head goes on: as it arrives and the green is free, or after the
-- start-up loss where that is not spent and the cluster waits already
abbrev pub start_in_green : Phase → Head → Cluster → ℕ
start_in_green p head c =
    if head.fresh && nat_le c.arr head.at then max head.at (head.since + p.loss) else max c.arr head.at

-- whether the green of the head goes on for a cluster of phase j, whose times are `p`: it is a green of this phase, and the
-- cluster, where it is served in it, ends within its greatest duration
abbrev pub goes_on : Phase → Head → ℕ → Cluster → Bool
goes_on p head j c = (j == head.phase) && nat_le (start_in_green p head c + c.len) (head.since + p.greatest)

-- when the green of a head can end: it lasts its least time and until its time is spent
abbrev pub earliest_end : List Phase → Head → ℕ
earliest_end plan head = max head.at (head.since + (phase_at plan head.phase).least)

-- when a new green of phase j can begin: after the green of the head, once the ring has turned
abbrev pub earliest_green : List Phase → Head → ℕ → ℕ
earliest_green plan head j = earliest_end plan head + switch_time plan head.phase j

-- the cluster served from this start in this green, where it ends within the greatest green and does not wait too long
abbrev pub served_from : Phase → ℕ → Cluster → ℕ → ℕ → Bool → Result (Served × Head) Unfit
served_from p j c green start kept =
    if nat_lt (green + p.greatest) (start + c.len) then Err TooLong
    else (if nat_lt p.wait (start - c.arr) then Err TooLate
    else Ok (
      record {
        green = green;
        start = start;
        finish = start + c.len;
        cost = c.load * (start - c.arr);
        kept = kept;
      },
      record { phase = j; since = green; at = start + c.len; fresh = false },
    ))

-- a cluster of phase j in a new green: after the start-up loss where it waits already, and else as it arrives
abbrev pub served_anew : Phase → ℕ → Cluster → ℕ → Result (Served × Head) Unfit
served_anew p j c earliest =
    if nat_le c.arr earliest then served_from p j c earliest (earliest + p.loss) false
    else served_from p j c c.arr c.arr false

-- a cluster of phase j served from a head, and the next head, or why it is unfit: in the green of the head where that goes on, and
-- else in a new one
abbrev pub serving : List Phase → Head → ℕ → Cluster → Result (Served × Head) Unfit
serving plan head j c =
    let p = phase_at plan j in
    if goes_on p head j c then served_from p j c head.since (start_in_green p head c) true
    else served_anew p j c (earliest_green plan head j)

-- the head after a serving of phase k
abbrev pub head_after : ℕ → Served → Head
head_after k s = record { phase = k; since = s.green; at = s.finish; fresh = false }

-- the times of a fit serving of a cluster of phase k from a head: it starts in its green, when the cluster has arrived and
-- not before the head's time is spent; the cluster waits no longer than it may, and lasts as long as it is, within the
-- greatest green
pub record IsTimed (plan : List Phase) (head : Head) (k : ℕ) (c : Cluster) (s : Served) : Type 0 where
  pub later : head.at ≤ s.start
  pub in_green : s.green ≤ s.start
  pub arrived : c.arr ≤ s.start
  pub waited : s.start ≤ c.arr + (phase_at plan k).wait
  pub ends : s.finish ≡ s.start + c.len
  pub within : s.finish ≤ s.green + (phase_at plan k).greatest

-- the bounds of every fit serving: a head of the plan, the finish and the cost
pub record IsServing (plan : List Phase) (s : Served × Head) : Type 0 where
  pub head : IsHead plan s.1
  pub finish : s.1.at ≤ latest_finish
  pub cost : s.0.cost ≤ greatest_cost
