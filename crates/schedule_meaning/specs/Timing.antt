-- The timing of a sequence of phases.
use Rattle.std.specs.Prelude.{◌≡◌, ℕ, ◌+◌, ◌*◌, ◌≤◌, ◌==◌, count_by, List, length, sum, sum_by, slice_index, Option}
use Rattle.std.specs.Option.{option_map}
use Rattle.switch_rules.specs.Bounds.{latest_time, greatest_cost, greatest_delay}
use Rattle.switch_rules.specs.Serving.{IsHead}
pub use Rattle.switch_rules.specs.Sequences.{next_cluster}
use Rattle.switch_rules.specs.Sequences as sequences
use Rattle.switch_rules.specs.declared.Head.{Head}
use Rattle.switch_rules.specs.declared.Served.{Served}
use Rattle.schedule_meaning.specs.Instances.{Problem, list_at, counts_of}

-- the rest of a sequence from a head, given how many clusters of each phase are left
abbrev pub timed_from : Problem → List ℕ → Head → List ℕ → Option (List Served × Head)
timed_from p left head ks = sequences.timed_from p.plan p.lists left head ks

-- a sequence of phases, timed from the problem's head: what is served and the last head; none where it is not feasible
abbrev pub timed : Problem → List ℕ → Option (List Served × Head)
timed p sequence = timed_from p (counts_of p.lists) p.head sequence

-- the delay of what is served
abbrev pub total_cost : List Served → ℕ
total_cost served = sum_by (λ s. s.cost) served

-- the delay of a sequence and the head after it; none where it is not feasible
abbrev pub timing : Problem → List ℕ → Option (ℕ × Head)
timing p sequence = option_map (λ t. (total_cost t.0, t.1)) (timed p sequence)

-- the delay of a sequence; none where it is not feasible
abbrev pub delay_of : Problem → List ℕ → Option ℕ
delay_of p sequence = option_map (λ t. total_cost t.0) (timed p sequence)

-- how often a sequence names phase k
abbrev pub times_of : ℕ → List ℕ → ℕ
times_of k sequence = count_by (λ x. x == k) sequence

-- a sequence on its way: this many clusters are left, a head is reached, and the delay leaves enough for what is left
pub record IsUnderWay (p : Problem) (counts : List ℕ) (h : Head) (spent : ℕ) : Type 0 where
  pub head : IsHead p.plan h
  pub reach : h.at ≤ latest_time
  pub lists : length counts ≡ length p.lists
  pub left : (k : ℕ) → slice_index counts k ≤ length (list_at p.lists k)
  pub delay : spent + greatest_cost * sum counts ≤ greatest_delay

-- the delay so far with that of what follows, and the last head
abbrev pub onward : ℕ → List Served × Head → ℕ × Head
onward delay t = (delay + total_cost t.0, t.1)
