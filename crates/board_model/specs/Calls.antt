-- Calls on boards: the logs that they make, and when the logs agree with them.
use Rattle.std.specs.Prelude.{◌≡◌, ℕ, ◌<◌, ◌≤◌, ◌==◌, ◌⊎◌, List, [], map, filter, All, slice_index_or, if◌then◌else◌}
use Rattle.std.specs.List.{AllPairs}
use Rattle.board_model.specs.declared.boards.BoardEvent.{BoardEvent}
use Rattle.board_model.specs.declared.boards.BoardKind.TheVariants.{Read, Publish}
use Rattle.board_model.specs.declared.calls.Call.{Call}
use Rattle.board_model.specs.Boards.{Log, IsLegal, version_of, forecast_of, up_to}

-- the calls at a link
abbrev pub calls_at : ℕ → List Call → List Call
calls_at link calls = filter (λ call. call.link == link) calls

-- the event of a node's call
abbrev pub event_of : ℕ → Call → BoardEvent
event_of node call =
    record {
      stamp = call.stamp;
      node = node;
      kind = if call.publishes then Publish call.forecast else Read call.version;
    }

-- the events of a node
abbrev pub events_by : ℕ → List BoardEvent → List BoardEvent
events_by node log = filter (λ event. event.node == node) log

-- the order of (stamp, node)
abbrev pub IsBefore : BoardEvent → BoardEvent → Type 0
IsBefore early late = (early.stamp < late.stamp) ⊎ ((early.stamp ≡ late.stamp) × (early.node ≤ late.node))

-- the log of the calls at a link, where each node has made these calls: the events of all calls there, each once, in order
pub record IsLogOf (calls : ℕ → List Call) (link : ℕ) (log : List BoardEvent) : Type 0 where
  pub ordered : AllPairs IsBefore log
  pub tied : (node : ℕ) → events_by node log ≡ map (event_of node) (calls_at link (calls node))

-- the version of the call is the log's at the call's event, and its forecast is that version's
pub record Agrees (log : List BoardEvent) (call : Call) : Type 0 where
  pub version : call.version ≡ version_of (up_to call.stamp log)
  pub forecast : call.forecast ≡ forecast_of log call.version

-- the logs of the calls, one for each link
abbrev pub AreLogsOf : (ℕ → List Call) → (ℕ → List BoardEvent) → Type 0
AreLogsOf calls logs = (link : ℕ) → IsLogOf calls link (logs link)

-- the logs agree with the calls: each is legal, and each call agrees with the log of its link
pub record Agree (calls : ℕ → List Call) (logs : ℕ → List BoardEvent) : Type 0 where
  pub legal : (link : ℕ) → IsLegal (logs link)
  pub each : (link node : ℕ) → All (Agrees (logs link)) (calls_at link (calls node))

-- the log of a link, where there is one log for each; none where there is no such link
abbrev pub log_at : List Log → ℕ → List BoardEvent
log_at logs link = slice_index_or (map (λ log. log.events) logs) link []
