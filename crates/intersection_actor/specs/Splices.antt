-- What is kept of a plan of a round. No public clause names these.
use Rattle.std.specs.Prelude.{◌≡◌, ℕ, List, Some}
use Rattle.phase_plan.specs.Phases.{IsRing}
use Rattle.phase_plan.specs.declared.Phase.{Phase}
use Rattle.switch_rules.specs.declared.Head.{Head}
use Rattle.control_flow.specs.Greens.{GoesOn, IsContinued, IsLawful, head_at}
use Rattle.control_flow.specs.declared.greens.Green.{Green}
use Rattle.intersection_actor.specs.declared.planning.Kept.{Kept}
use Rattle.intersection_actor.specs.declared.planning.RoundPlan.{RoundPlan}
use Rattle.intersection_actor.specs.declared.records.PlanRecord.{PlanRecord}

-- the plan record of a plan of a round
abbrev pub record_from : ℕ → ℕ → RoundPlan → PlanRecord
record_from node round p =
    record { node = node; round = round; used = p.used; instance = p.instance; answer = p.schedule.answer }

-- what a node keeps of a plan besides its record and its timeline
abbrev pub kept_of : RoundPlan → Kept
kept_of p = record { window = p.window; phases = p.schedule.phases; served = p.schedule.served }

-- what splicing keeps of a lawful timeline
abbrev pub IsLawAlong : List Green → List Green → List Green → Type 0
IsLawAlong old next new =
    (plan : List Phase) (now : ℕ) (head : Head) → IsRing plan → IsLawful plan old → head_at plan old now ≡ Some head
    → IsLawful plan next → GoesOn head next
    → IsContinued plan old now next new
