-- The history of logs.
use Rattle.std.specs.Prelude.{◌≡◌, ℕ, List, map, AllPairs, IsPermutation}
use Rattle.std.specs.List.{flat_map}
use Rattle.board_model.specs.declared.boards.BoardEvent.{BoardEvent}
use Rattle.board_model.specs.Boards.{Log}
use Rattle.board_model.specs.Calls.{IsBefore}

-- the stamp and the node of an event
abbrev pub stamp_and_node : BoardEvent → ℕ × ℕ
stamp_and_node event = (event.stamp, event.node)

-- all events of all logs, log by log
abbrev pub all_events : List Log → List BoardEvent
all_events logs = flat_map (λ log. log.events) logs

-- the history is the nodes of all events of all logs, in the order of (stamp, node)
pub record IsMerge (logs : List Log) (history : List ℕ) : Type 0 where
  pub order : List BoardEvent
  pub all : IsPermutation (all_events logs) order
  pub ordered : AllPairs IsBefore order
  pub nodes : history ≡ map (λ event. event.node) order
