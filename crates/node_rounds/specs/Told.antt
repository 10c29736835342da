-- What the calls of a node tell of its round.
use Rattle.std.specs.Prelude.{◌≡◌, ℕ, true, false, List, All, Contains, map}
use Rattle.board_model.specs.declared.boards.Heard.{Heard}
use Rattle.board_model.specs.declared.calls.Call.{Call}
use Rattle.histories.specs.Steps.{board_steps}
use Rattle.intersection_actor.specs.Commits.{Commitment}
use Rattle.histories.specs.Calls.{step_of}
use Rattle.net_parts.specs.Numbers.{Net}
use Rattle.runs.specs.Runs.{told_in}

-- what a reading tells
abbrev pub heard_of : Call → Heard
heard_of call = record { link = call.link; version = call.version; forecast = call.forecast }

-- The calls of a node in a round in which it has heard this and made this commit: they are its board steps, in their order; it has
-- heard what each reading tells; and each publishing has the forecast that the commit tells on its link.
pub record AreCallsOf (net : Net) (round node : ℕ) (heard : List Heard) (made : Commitment)
    (calls : List Call) : Type 0 where
  pub steps : map step_of calls ≡ board_steps net node
  pub hears : All (λ call. call.publishes ≡ false → Contains heard (heard_of call)) calls
  pub tells : All (λ call. call.publishes ≡ true → call.forecast ≡ told_in net round call.link made) calls
