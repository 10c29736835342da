-- What the nodes call, and in which rounds.
use Rattle.std.specs.Prelude.{◌≡◌, ℕ, zero, suc, ◌<◌, ◌≤◌, List, [], ◌++◌, map, All, AllPairs, if◌then◌else◌}
use Rattle.board_model.specs.declared.calls.Call.{Call}
use Rattle.histories.specs.declared.steps.BoardStep.{BoardStep}
use Rattle.histories.specs.declared.steps.BoardStep.TheVariants.{Read, Publish}

-- the board step that a call is
abbrev pub step_of : Call → BoardStep
step_of call = if call.publishes then Publish call.link else Read call.link

-- each stamp is below all later ones
abbrev pub IsRising : List Call → Type 0
IsRising calls = AllPairs (λ early late. early.stamp < late.stamp) calls

-- the steps of `rounds` rounds, where each round has these
abbrev pub steps_of_rounds : ℕ → List BoardStep → List BoardStep
steps_of_rounds zero steps = []
steps_of_rounds (suc rounds) steps = steps_of_rounds rounds steps ++ steps

-- Each node has these steps in a round, and made these calls.
module _ (steps : ℕ → List BoardStep) where
  -- the last round of all nodes: their calls split into earlier ones, with stamps below a mark, and their steps, with stamps
  -- from it on
  pub record IsLastRound (mark : ℕ) (calls early last : ℕ → List Call) : Type 0 where
    pub split : (node : ℕ) → calls node ≡ early node ++ last node
    pub all : (node : ℕ) → map step_of (last node) ≡ steps node
    pub below : (node : ℕ) → All (λ call. call.stamp < mark) (early node)
    pub above : (node : ℕ) → All (λ call. mark ≤ call.stamp) (last node)

  -- the calls of the nodes are their steps, round by round, and the stamps of a round are below those of the next
  abbrev pub AreStepRounds : ℕ → (ℕ → List Call) → Type 0
  AreStepRounds zero calls = (node : ℕ) → calls node ≡ []
  AreStepRounds (suc rounds) calls = (early last : ℕ → List Call) × (mark : ℕ) × IsLastRound mark calls early last
      × AreStepRounds rounds early

  -- the calls of `rounds` rounds, each node's in the order of its stamps
  pub record AreCalls (rounds : ℕ) (calls : ℕ → List Call) : Type 0 where
    pub rounds_made : AreStepRounds rounds calls
    pub rising : (node : ℕ) → IsRising (calls node)
