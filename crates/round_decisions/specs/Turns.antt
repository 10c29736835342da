-- A node's turn in a round: what it hears on the boards, what it commits to, and what it tells on them.
use Rattle.std.specs.Prelude.{◌≡◌, ℕ, Bool, ◌+◌, ◌<◌, ◌&&◌, List, [], if◌then◌else◌, is_some, length, map, slice_index_or}
use Rattle.board_model.specs.declared.boards.Heard.{Heard}
use Rattle.board_model.specs.declared.forecasts.Row.{Row}
use Rattle.control_flow.specs.declared.greens.Green.{Green}
use Rattle.intersection_actor.specs.Commits.{Commitment, IsCommit, record_of}
use Rattle.intersection_actor.specs.declared.records.PlanRecord.{PlanRecord}
use Rattle.net_parts.specs.Numbers.{Net}
use Rattle.net_parts.specs.Outline.{link_at}
use Rattle.road_net.specs.Joins.{is_node}
use Rattle.road_net.specs.Network.{heard_links}
use Rattle.road_net.specs.declared.senses.Sensed.{Sensed}
use Rattle.round_states.specs.declared.states.LinkBoard.{LinkBoard}
use Rattle.runs.specs.Runs.{told_in}

-- what stands where a link has no board
abbrev pub no_board : LinkBoard
no_board = record { version = 0; forecast = [] }

-- the board of a link
abbrev pub board_of : List LinkBoard → ℕ → LinkBoard
board_of boards link = slice_index_or boards link no_board

-- what is heard of a link that has this board
abbrev pub hearing_on : (ℕ → LinkBoard) → ℕ → Heard
hearing_on boards link = record { link = link; version = (boards link).version; forecast = (boards link).forecast }

-- what a node hears: the board of each link on which it hears another one, in link order
abbrev pub heard_on : Net → (ℕ → LinkBoard) → ℕ → List Heard
heard_on net boards node = map (hearing_on boards) (heard_links net node)

-- whether a link comes from this node and goes to one
abbrev pub tells : Net → ℕ → ℕ → Bool
tells net node link = is_node node (link_at net link).from && is_some (link_at net link).to

-- a board with this forecast as its next version
abbrev pub next_board : LinkBoard → List Row → LinkBoard
next_board board forecast = record { version = board.version + 1; forecast = forecast }

-- the boards once a node has published this of each link on which it tells another one
abbrev pub published : Net → ℕ → (ℕ → List Row) → (ℕ → LinkBoard) → ℕ → LinkBoard
published net node told boards link = if tells net node link then next_board (boards link) (told link) else boards link

-- the new boards are the old ones once a node has published this
pub record ArePublished (net : Net) (node : ℕ) (told : ℕ → List Row) (old new : List LinkBoard) : Type 0 where
  pub count : length new ≡ length old
  pub each : (link : ℕ) → link < length old → board_of new link ≡ published net node told (board_of old) link

-- A node's turn in a round: from its line, what it senses and what it hears on the old boards, it makes its commit; the plan is
-- the record of it, the line goes on as it says, and the new boards have what it tells.
pub record IsTurn (net : Net) (round node : ℕ) (line : List Green) (sensed : Sensed) (old new : List LinkBoard)
    (plan : PlanRecord) (after : List Green) : Type 0 where
  pub made : Commitment
  pub commit : IsCommit net node round line sensed (heard_on net (board_of old) node) made
  pub plan_is : plan ≡ record_of node round (heard_on net (board_of old) node) made
  pub line_is : after ≡ made.line
  pub boards : ArePublished net node (λ link. told_in net round link made) old new
