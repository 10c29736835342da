-- The state in which a round begins.
use Rattle.std.specs.Prelude.{◌≡◌, ℕ, ◌+◌, ◌*◌, ◌<◌, ◌≤◌, List, [], All, Some, length, slice_index_or}
use Rattle.board_model.specs.Forecasts.{IsForecast}
use Rattle.control_flow.specs.declared.greens.Green.{Green}
use Rattle.control_flow.specs.Greens.{BeginBy, IsLawful, end_of, row_at}
use Rattle.net_parts.specs.Numbers.{Net}
use Rattle.net_parts.specs.Outline.{known_seconds, plan_at}
use Rattle.phase_plan.specs.declared.Phase.{Phase}
use Rattle.road_net.specs.declared.senses.Sensed.{Sensed}
use Rattle.road_net.specs.Senses.{IsSensedOf}
use Rattle.round_states.specs.declared.asked.Asked.{Asked}
use Rattle.round_states.specs.declared.asked.Asked.TheVariants.{AllNodes, OneNode}
use Rattle.round_states.specs.declared.states.LinkBoard.{LinkBoard}
use Rattle.round_states.specs.declared.states.RoundState.{RoundState}

-- the last second in which a row of a timeline may begin
abbrev pub last_begin : ℕ
last_begin = 100000

-- no row of a timeline begins later than this many seconds after the begin of a round: the longest that a network looks ahead,
-- 180, and the longest that a cluster may wait then, 3,600
abbrev pub farthest_begin : ℕ
farthest_begin = 3780

-- a node is to have its turn
abbrev pub IsAsked : Asked → ℕ → Type 0
IsAsked AllNodes node = Unit {0}
IsAsked (OneNode asked) node = asked ≡ Some node

-- the second in which a round begins
abbrev pub begin_of : Net → ℕ → ℕ
begin_of net round = round * net.run.step

-- what stands where nothing is sensed
abbrev pub no_sense : Sensed
no_sense = record { now = 0; links = [] }

-- a node senses this in this second
pub record IsSensedAt (net : Net) (begin node : ℕ) (s : Sensed) : Type 0 where
  pub now : s.now ≡ begin
  pub sensed : IsSensedOf net node s

-- a timeline that goes on in this second: it is lawful for the plan, no row begins after second 100,000, and its first row has begun and
-- its last ends later
pub record IsLineAt (plan : List Phase) (now : ℕ) (rows : List Green) : Type 0 where
  pub lawful : IsLawful plan rows
  pub begins : BeginBy last_begin rows
  pub some : 0 < length rows
  pub begun : (row_at rows 0).from ≤ now
  pub ends : now < end_of rows

-- the board of a link in a round: a forecast with its version, at most one for each round up to this one, and none at version 0
pub record IsBoard (round : ℕ) (board : LinkBoard) : Type 0 where
  pub version : board.version ≤ round + 1
  pub forecast : IsForecast board.forecast
  pub none : board.version ≡ 0 → board.forecast ≡ []

-- The state in which a round of the network begins, or in which some of its nodes have had their turns, and these nodes are to have
-- theirs: it begins in a second that the network's files may name, each node senses its entry links in the first second of the round, the timelines
-- of those that are asked go on there, none has a row that begins too late, and each link has a board.
pub record IsStateOf (net : Net) (asked : Asked) (state : RoundState) : Type 0 where
  pub round : begin_of net state.round < known_seconds net
  pub sensed_count : length state.sensed ≡ length net.node_names
  pub sensed : (n : ℕ) → n < length net.node_names
      → IsSensedAt net (begin_of net state.round) n (slice_index_or state.sensed n no_sense)
  pub line_count : length state.lines ≡ length net.node_names
  pub lines : (n : ℕ) → n < length net.node_names → IsAsked asked n
      → IsLineAt (plan_at net n) (begin_of net state.round) (slice_index_or state.lines n [])
  pub soon : (n : ℕ) → n < length net.node_names
      → BeginBy (begin_of net state.round + farthest_begin) (slice_index_or state.lines n [])
  pub board_count : length state.boards ≡ length net.link_names
  pub boards : All (IsBoard state.round) state.boards
