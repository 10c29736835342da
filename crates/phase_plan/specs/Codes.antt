-- The codes of faults of the phases.
use Rattle.std.specs.Prelude.{ℕ, List, ◌∷◌, ◌++◌, codes}
use Rattle.std.specs.Fmt.{decimal}
use Rattle.phase_plan.specs.declared.Field.{Field}
use Rattle.phase_plan.specs.declared.Field.TheVariants.{Least, Greatest, Yellow, Clear, Loss, Wait}
use Rattle.phase_plan.specs.declared.PlanFault.{PlanFault}
use Rattle.phase_plan.specs.declared.PlanFault.TheVariants.{Count, Bound, Skips}

-- the name of a time of a phase, as the phase line of a text has it
abbrev pub field_name : Field → List ℕ
field_name Least = codes "least"
field_name Greatest = codes "greatest"
field_name Yellow = codes "yellow"
field_name Clear = codes "clear"
field_name Loss = codes "loss"
field_name Wait = codes "wait"

-- the code of a fault of the phases: the phase, from 0, and the field
abbrev pub plan_code : PlanFault → List ℕ
plan_code (Count n) = codes "plan count"
plan_code (Bound phase field) = codes "plan " ++ decimal phase ++ 32 ∷ field_name field
plan_code Skips = codes "plan skips"
