-- What a serving keeps: its green, its end, and how it stands to the head before it.
use Rattle.std.proofs.Common.{◌≡◌, ℕ, ◌+◌, ◌≤◌, true, false, List, arith}
use Rattle.phase_plan.specs.Phases.{IsRing, phase_at}
use Rattle.phase_plan.specs.declared.Phase.{Phase}
use Rattle.phase_plan.proofs.RingLaws.{phase-bounds}
use Rattle.switch_rules.specs.Serving.{IsHead, earliest_green, head_after}
use Rattle.switch_rules.specs.declared.Head.{Head}
use Rattle.switch_rules.specs.declared.Served.{Served}
use Rattle.switch_rules.proofs.ServingLaws.{serving-keeps}
use Rattle.control_flow.specs.Timelines.{IsServingOf}

-- a serving of phase k, of whatever cluster
pub record IsAnyServing (plan : List Phase) (head : Head) (k : ℕ) (s : Served) : Type 0 where
  pub begun : s.green ≤ s.finish
  pub within : s.finish ≤ s.green + (phase_at plan k).greatest
  pub reach : s.finish ≤ 103840
  pub stood : s.kept ≡ true → (k ≡ head.phase) × (s.green ≡ head.since) × (head.at ≤ s.finish)
  pub anew : s.kept ≡ false → earliest_green plan head k ≤ s.green

pub IsServingOf-keeps : (plan : List Phase) (head : Head) (k : ℕ) (s : Served) → IsRing plan → IsHead plan head → IsServingOf plan head k s → IsAnyServing plan head k s
IsServingOf-keeps plan head k s plan_is h serving_is =
    let keeps = serving-keeps plan head k serving_is.cluster s (head_after k s) serving_is.phase (phase-bounds plan k plan_is serving_is.phase) h serving_is.bounds serving_is.fit in
    record {
      begun = omega (arith, keeps.times.in_green, keeps.times.ends);
      within = keeps.times.within;
      reach = keeps.bounds.finish;
      stood = λ e. ((keeps.stood e).0, (keeps.stood e).1, omega (arith, keeps.times.later, keeps.times.ends));
      anew = keeps.anew;
    }

-- after it stands a head of the plan
pub IsServingOf-head : (plan : List Phase) (head : Head) (k : ℕ) (s : Served) → IsRing plan → IsHead plan head → IsServingOf plan head k s → IsHead plan (head_after k s)
IsServingOf-head plan head k s plan_is h serving_is =
    let keeps = IsServingOf-keeps plan head k s plan_is h serving_is in
    record { phase = serving_is.phase; begun = keeps.begun; within = keeps.within }

-- for callers: a serving as `serve` gives it, and servings that are added one by one
