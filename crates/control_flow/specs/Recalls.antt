-- The plan of a round in which phases are recalled.
use Rattle.std.specs.Prelude.{ℕ, Bool, not, ◌&&◌, List, length, map}
use Rattle.std.specs.List.{range_with_len}
use Rattle.phase_plan.specs.Phases.{phase_at}
use Rattle.phase_plan.specs.declared.Phase.{Phase}

-- the phase of this number, without a mark where it is one of these
abbrev pub without_mark : List Phase → (ℕ → Bool) → ℕ → Phase
without_mark plan these k = record (phase_at plan k) { skip = (phase_at plan k).skip && not (these k) }

-- the phases of a plan, these without their marks
abbrev pub without_marks : List Phase → (ℕ → Bool) → List Phase
without_marks plan these = map (without_mark plan these) (range_with_len 0 (length plan))

-- the plan in which no phase that is recalled has a mark
abbrev pub recalled : List Phase → (ℕ → Bool) → List Phase
recalled plan is_recalled = without_marks plan is_recalled
