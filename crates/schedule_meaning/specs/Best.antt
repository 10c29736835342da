-- Which answer of an instance is the best.
use Rattle.std.specs.Prelude.{◌≡◌, ℕ, ◌<◌, ◌≤◌, List, ◌∷◌, ◌++◌, All, Some, None, IfSome}
use Rattle.switch_rules.specs.Orders.{orders}
use Rattle.schedule_meaning.specs.Instances.{Problem, counts_of}
use Rattle.schedule_meaning.specs.Timing.{delay_of}
use Rattle.schedule_meaning.specs.declared.planners.Answer.{Answer}
use Rattle.schedule_meaning.specs.declared.planners.Answer.TheVariants.{Plan, NoPlan}

-- each of these sequences that is feasible has more delay
abbrev pub AllAbove : Problem → ℕ → List (List ℕ) → Type 0
AllAbove p delay sequences = All (λ s. IfSome (delay_of p s) (λ d. delay < d)) sequences

-- each of these sequences that is feasible has at least this delay
abbrev pub AllFrom : Problem → ℕ → List (List ℕ) → Type 0
AllFrom p delay sequences = All (λ s. IfSome (delay_of p s) (λ d. delay ≤ d)) sequences

-- the best of some sequences: the first that is feasible and whose delay no feasible one undercuts
pub record IsBestPlan (p : Problem) (all : List (List ℕ)) (sequence : List ℕ) (delay : ℕ) : Type 0 where
  pub feasible : delay_of p sequence ≡ Some delay
  pub before : List (List ℕ)
  pub after : List (List ℕ)
  pub among : all ≡ before ++ sequence ∷ after
  pub first : AllAbove p delay before
  pub least : AllFrom p delay after

-- the best plan among some sequences, or no plan exactly where none of them is feasible
abbrev pub IsBestAmong : Problem → List (List ℕ) → Answer → Type 0
IsBestAmong p all (Plan sequence delay) = IsBestPlan p all sequence delay
IsBestAmong p all NoPlan = All (λ s. delay_of p s ≡ None) all

-- the best answer: the best among all orders of the clusters, which stand in lexicographic order
abbrev pub IsBest : Problem → Answer → Type 0
IsBest p answer = IsBestAmong p (orders (counts_of p.lists)) answer

-- No sequence has less delay than this answer. A plan is feasible with the delay that it claims, and no other list of phases has
-- less; with no plan none is feasible.
abbrev pub IsLeast : Problem → Answer → Type 0
IsLeast p (Plan sequence delay) =
    (delay_of p sequence ≡ Some delay) × ((s : List ℕ) → IfSome (delay_of p s) (λ d. delay ≤ d))
IsLeast p NoPlan = (s : List ℕ) → delay_of p s ≡ None
