-- What `plan` writes.
use Rattle.std.specs.Prelude.{ℕ, List, [], ◌∷◌, ◌++◌, codes}
use Rattle.std.specs.List.{flat_map}
use Rattle.std.specs.Fmt.{decimal}
use Rattle.schedule_meaning.specs.declared.planners.Answer.{Answer}
use Rattle.schedule_meaning.specs.declared.planners.Answer.TheVariants.{Plan, NoPlan}

-- what `plan` writes: the delay and the phases of the sequence in two lines, or the one line of no plan
abbrev pub answer_text : Answer → List ℕ
answer_text NoPlan = codes "none\n"
answer_text (Plan sequence delay) =
    codes "delay " ++ decimal delay ++ codes "\norder" ++ flat_map (λ phase. 32 ∷ decimal phase) sequence ++ 10 ∷ []
