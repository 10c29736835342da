-- The calls in the history that their logs tell.
use Rattle.std.specs.Prelude.{◌≡◌, ℕ, ◌<◌, false, Some, List, [], ◌∷◌, length, map, filter, slice_get, slice_index, slice_index_or}
use Rattle.board_model.specs.declared.calls.Call.{Call}
use Rattle.board_model.specs.declared.forecasts.Row.{Row}
use Rattle.histories.specs.declared.steps.BoardStep.{BoardStep}
use Rattle.histories.specs.Histories.{earlier, step_at, version_at, IsEntry}
use Rattle.histories.specs.Steps.{is_publish_of}
use Rattle.histories.specs.Calls.{step_of}

-- the forecasts that the calls publish on a link
abbrev pub sent : ℕ → List Call → List (List Row)
sent link calls = map (λ call. call.forecast) (filter (λ call. is_publish_of link (step_of call)) calls)

-- Each node has these steps in a round, and made these calls; of each link this node publishes on it.
module _ (steps : ℕ → List BoardStep) (from : ℕ → ℕ) (calls : ℕ → List Call) where
  -- At a place stands this call of its node, which is the step there. A Read has the version of the place, and the forecast
  -- that the link's publisher published as that version.
  pub record StandsAt (history : List ℕ) (place : ℕ) (call : Call) : Type 0 where
    pub found : slice_get (calls (slice_index history place)) (earlier history place) ≡ Some call
    pub step : step_at steps history place ≡ step_of call
    pub version : call.publishes ≡ false → call.version ≡ version_at steps history call.link place
    pub forecast : call.publishes ≡ false
        → call.forecast ≡ slice_index_or ([] ∷ sent call.link (calls (from call.link))) call.version []

  -- each place of the history has a call that stands there, and each call of a node has, in the node's order, a place
  pub record AreTold (history : List ℕ) : Type 0 where
    pub places : (place : ℕ) → place < length history → (call : Call) × StandsAt history place call
    pub made : (node before : ℕ) (call : Call) → slice_get (calls node) before ≡ Some call
        → (place : ℕ) × IsEntry history node before place × StandsAt history place call
