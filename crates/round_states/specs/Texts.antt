-- Which state a text stands for.
use Rattle.std.specs.Prelude.{◌≡◌, ℕ, ◌/◌, ◌<◌, ◌≤◌, ◌==◌, ◌⊎◌, if◌then◌else◌, List, Option, Some, None, filter_map, length, map, slice_index_or}
use Rattle.std.specs.List.{range_with_len}
use Rattle.std.specs.List.Sorted.{IsStrictlyIncreasing}
use Rattle.board_model.specs.declared.forecasts.Row.{Row}
use Rattle.board_model.specs.Forecasts.{amount_at, seconds}
use Rattle.control_flow.specs.declared.greens.Green.{Green}
use Rattle.net_parts.specs.Numbers.{Net}
use Rattle.net_parts.specs.Outline.{link_at, plan_at}
use Rattle.record_text.specs.Forms.{Form, IsTextOf}
use Rattle.road_net.specs.declared.senses.LinkSense.{LinkSense}
use Rattle.road_net.specs.declared.senses.Sensed.{Sensed}
use Rattle.road_net.specs.Network.{entry_links}
use Rattle.round_states.specs.declared.asked.Asked.{Asked}
use Rattle.round_states.specs.declared.asked.Asked.TheVariants.{AllNodes, OneNode}
use Rattle.round_states.specs.declared.entries.Entry.{Entry}
use Rattle.round_states.specs.declared.entries.StateRecord.{StateRecord}
use Rattle.round_states.specs.declared.entries.StateRecord.TheVariants as said
use Rattle.round_states.specs.declared.entries.Queue.{Queue}
use Rattle.round_states.specs.declared.states.LinkBoard.{LinkBoard}
use Rattle.round_states.specs.declared.states.RoundState.{RoundState}
use Rattle.round_states.specs.Order.{AreInOrder, now_of}
use Rattle.round_states.specs.States.{IsAsked, IsBoard, IsLineAt, IsStateOf}
use Rattle.round_states.specs.StateRecords.{parse_in, header}

-- the green, the queue, what comes, the version or the row that is said, each where this is what is said
abbrev pub green_said : StateRecord → Option Green
green_said (said.Green green) = Some green
green_said _ = None

abbrev pub queue_said : StateRecord → Option Queue
queue_said (said.Queue queue) = Some queue
queue_said _ = None

abbrev pub coming_said : StateRecord → Option Row
coming_said (said.Coming row) = Some row
coming_said _ = None

abbrev pub version_said : StateRecord → Option ℕ
version_said (said.Version version) = Some version
version_said _ = None

abbrev pub row_said : StateRecord → Option Row
row_said (said.Row row) = Some row
row_said _ = None

-- what a record says of this node or link, by one of these
abbrev pub said_of : {X : Type 0} → (StateRecord → Option X) → ℕ → Entry → Option X
said_of of place e = if e.place == place then of e.content else None

-- all that records say of it, in their order
abbrev pub all_said : {X : Type 0} → (StateRecord → Option X) → List Entry → ℕ → List X
all_said of es place = filter_map (said_of of place) es

-- what stands where no queue is told
abbrev pub no_queue : Queue
no_queue = record { amount = 0; stood = 0 }

-- the queue of a link, and its version: the first that is told, and else 0
abbrev pub queue_in : List Entry → ℕ → Queue
queue_in es link = slice_index_or (all_said queue_said es link) 0 no_queue

abbrev pub version_in : List Entry → ℕ → ℕ
version_in es link = slice_index_or (all_said version_said es link) 0 0

-- what comes on a link in each of this number of seconds, from this one on
abbrev pub coming_in : List Entry → ℕ → ℕ → ℕ → List ℕ
coming_in es link now travel = map (amount_at (all_said coming_said es link)) (range_with_len now travel)

-- what is sensed of a link, and at a node of its entry links
abbrev pub sense_in : Net → List Entry → ℕ → LinkSense
sense_in net es link =
    record {
      link = link;
      queue = (queue_in es link).amount;
      coming = coming_in es link (now_of es) (link_at net link).travel;
      stood = (queue_in es link).stood;
    }

abbrev pub sensed_in : Net → List Entry → ℕ → Sensed
sensed_in net es node = record { now = now_of es; links = map (sense_in net es) (entry_links net node) }

-- the board of a link
abbrev pub board_in : List Entry → ℕ → LinkBoard
board_in es link = record { version = version_in es link; forecast = all_said row_said es link }

-- the round that records tell
abbrev pub round_in : Net → List Entry → ℕ
round_in net es = now_of es / net.run.step

-- the state that records tell: of each node what it senses and its greens, and the board of each link
abbrev pub state_in : Net → List Entry → RoundState
state_in net es = record {
  round = round_in net es;
  sensed = map (sensed_in net es) (range_with_len 0 (length net.node_names));
  lines = map (all_said green_said es) (range_with_len 0 (length net.node_names));
  boards = map (board_in es) (range_with_len 0 (length net.link_names));
}

-- the queue of a link is told once at most, and what comes on it in seconds that rise
pub record IsSensedOnce (es : List Entry) (link : ℕ) : Type 0 where
  pub queue : length (all_said queue_said es link) ≤ 1
  pub rising : IsStrictlyIncreasing (seconds (all_said coming_said es link))

-- the version of a link is told once at most, and its rows are a forecast of this version
pub record IsBoardOnce (net : Net) (es : List Entry) (link : ℕ) : Type 0 where
  pub version : length (all_said version_said es link) ≤ 1
  pub board : IsBoard (round_in net es) (board_in es link)

-- the greens of a node are its timeline as the round begins, where it is to have its turn or has any
abbrev pub GoesOn : Net → Asked → List Entry → ℕ → Type 0
GoesOn net asked es node =
    IsAsked asked node ⊎ (0 < length (all_said green_said es node))
    → IsLineAt (plan_at net node) (now_of es) (all_said green_said es node)

-- a queue has stood for no more seconds than it can have by a second: none where there is no queue, and no more than there were
pub record CanHaveStood (now : ℕ) (queue : Queue) : Type 0 where
  pub some : 0 < queue.stood → 0 < queue.amount
  pub since : queue.stood ≤ now

-- where all nodes are to have their turns, none has told on a link in this round
abbrev pub IsUntold : Net → Asked → List Entry → ℕ → Type 0
IsUntold net AllNodes es link = version_in es link ≤ round_in net es
IsUntold net (OneNode asked) es link = Unit {0}

-- Records that tell a state for these nodes: they stand in order, say of each link once what is said once and can be so, and what they
-- tell is a state in which a round begins, or in which some nodes have had their turns.
pub record TellState (net : Net) (asked : Asked) (es : List Entry) (state : RoundState) : Type 0 where
  pub order : AreInOrder net es
  pub senses : (l : ℕ) → l < length net.link_names → IsSensedOnce es l
  pub boards : (l : ℕ) → l < length net.link_names → IsBoardOnce net es l
  pub lines : (n : ℕ) → n < length net.node_names → GoesOn net asked es n
  pub stood : (l : ℕ) → l < length net.link_names → CanHaveStood (now_of es) (queue_in es l)
  pub untold : (l : ℕ) → l < length net.link_names → IsUntold net asked es l
  pub parsed : state ≡ state_in net es
  pub is : IsStateOf net asked state

-- the form of the text: records after the first tell a state in order
abbrev pub form : Net → Asked → Form Entry RoundState
form net asked = record { header = header; read = parse_in net; lawful = AreInOrder net; is_of = TellState net asked }

-- the state of a text that is read for these nodes
abbrev pub IsStateText : Net → Asked → List ℕ → RoundState → Type 0
IsStateText net asked bytes state = IsTextOf (form net asked) bytes state
