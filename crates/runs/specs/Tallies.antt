-- What a run leaves where its plans are not kept, and what is counted of these.
use Rattle.std.specs.Prelude.{◌≡◌, ℕ, ◌*◌, ◌≤◌, Bool, true, false, List, count_by, length, sum_by}
use Rattle.intersection_actor.specs.declared.records.PlanRecord.{PlanRecord}
use Rattle.schedule_meaning.specs.declared.planners.Answer.{Answer}
use Rattle.schedule_meaning.specs.declared.planners.Answer.TheVariants.{Plan, NoPlan}
use Rattle.switch_rules.specs.Bounds.{greatest_delay}
use Rattle.runs.specs.declared.plan_tallies.PlanTally.{PlanTally}
use Rattle.runs.specs.declared.records.RunRecord.{RunRecord}
use Rattle.runs.specs.declared.records.RunTotals.{RunTotals}

-- what is left of a run is what its record has besides the plans
pub record AreTotalsOf (run : RunRecord) (left : RunTotals) : Type 0 where
  pub timelines : left.timelines ≡ run.timelines
  pub links : left.links ≡ run.links
  pub totals : left.totals ≡ run.totals

-- whether an answer is no plan, and the delay that it plans
abbrev pub is_no_plan : Answer → Bool
is_no_plan NoPlan = true
is_no_plan (Plan sequence delay) = false

abbrev pub planned_delay : Answer → ℕ
planned_delay NoPlan = 0
planned_delay (Plan sequence delay) = delay

-- how many of the plans are none, and the delays of the others together
abbrev pub none_count : List PlanRecord → ℕ
none_count plans = count_by (λ (plan : PlanRecord). is_no_plan plan.answer) plans

abbrev pub planned_delays : List PlanRecord → ℕ
planned_delays plans = sum_by (λ (plan : PlanRecord). planned_delay plan.answer) plans

-- no more plans are none than there are, and each plans the greatest delay at the most
pub record IsTally (tally : PlanTally) : Type 0 where
  pub none : tally.none ≤ tally.plans
  pub delay : tally.delay ≤ greatest_delay * tally.plans

-- what is counted of these plans: how many there are, how many of them are none, and the delays that the others plan together
pub record IsTallyOf (all : List PlanRecord) (tally : PlanTally) : Type 0 where
  pub plans : tally.plans ≡ length all
  pub none : tally.none ≡ none_count all
  pub delay : tally.delay ≡ planned_delays all
