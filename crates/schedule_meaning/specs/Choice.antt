-- No public clause names these: what the plain planner keeps on its way; what it promises is in Best.
use Rattle.std.specs.Prelude.{ℕ, nat_lt, Bool, true, if◌then◌else◌, List, ◌++◌, Option, Some, None, fold}
use Rattle.schedule_meaning.specs.Instances.{Problem}
use Rattle.schedule_meaning.specs.Timing.{delay_of}
use Rattle.schedule_meaning.specs.declared.planners.Answer.{Answer}
use Rattle.schedule_meaning.specs.declared.planners.Answer.TheVariants.{Plan, NoPlan}

-- whether a delay is less than that of an answer
abbrev pub undercuts : ℕ → Answer → Bool
undercuts delay NoPlan = true
undercuts delay (Plan sequence least) = nat_lt delay least

-- the better of an answer and a sequence with its delay, the answer where they are equal
abbrev pub better : Answer → List ℕ → Option ℕ → Answer
better answer sequence None = answer
better answer sequence (Some delay) = if undercuts delay answer then Plan sequence delay else answer

-- the better of an answer and a sequence that begins with a prefix
abbrev pub better_after : Problem → List ℕ → Answer → List ℕ → Answer
better_after p prefix answer rest = better answer (prefix ++ rest) (delay_of p (prefix ++ rest))

-- the best of an answer and of sequences that begin with a prefix, each tried in its turn
abbrev pub best_after : Problem → List ℕ → Answer → List (List ℕ) → Answer
best_after p prefix answer rests = fold (better_after p prefix) answer rests
