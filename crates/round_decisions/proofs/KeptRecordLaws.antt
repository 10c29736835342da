-- What a decision tells, kept record after record.
use Rattle.std.proofs.Common.{ℕ, List, [], ◌∷◌, codes, map}
use Rattle.std.specs.List.{join_with_byte}
use Rattle.net_parts.specs.Numbers.{Net}
use Rattle.net_parts.specs.Outline.{node_name_at}
use Rattle.intersection_actor.specs.PlanFields.{used_text}
use Rattle.intersection_actor.specs.declared.records.PlanRecord.{PlanRecord}
use Rattle.schedule_meaning.specs.declared.planners.Answer.{Answer}
use Rattle.schedule_meaning.specs.declared.planners.Answer.TheVariants.{Plan, NoPlan}
use Rattle.round_states.specs.NextTexts.{Keeps}
use Rattle.round_states.specs.declared.kept_records.KeptRecords.{KeptRecords}
use Rattle.round_decisions.specs.DecisionTexts.{answer_fields, plan_record}

-- whatever the answer of a plan is, its record has five fields
pub keeps-plan-of : (net : Net) (plan : PlanRecord) (old new : KeptRecords) → ((net : Net) (name x y z : List ℕ) → Keeps net old new ((codes "plan" ∷ name ∷ x ∷ y ∷ z ∷ []) ∷ [])) → Keeps net old new (plan_record net plan ∷ [])
keeps-plan-of net plan old new keeps = by plan.answer
  where
    by : (answer : Answer) → Keeps net old new ((codes "plan" ∷ node_name_at net plan.node ∷ join_with_byte 59 (map (used_text net) plan.used) ∷ answer_fields answer) ∷ [])
    by (Plan sequence delay) = keeps net _ _ _ _
    by NoPlan = keeps net _ _ _ _
