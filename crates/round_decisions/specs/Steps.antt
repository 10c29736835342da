-- The steps of a node's turn, and of a round. No public clause names these definitions.
use Rattle.std.specs.Prelude.{◌≡◌, ℕ, ◌+◌, ◌<◌, ◌≤◌, ◌&&◌, ◌++◌, IsTrue, List, [], ◌∷◌, All, if◌then◌else◌, drop, length, map, nat_lt, slice_index_or}
use Rattle.std.specs.List.{range_with_len}
use Rattle.board_model.specs.declared.forecasts.Row.{Row}
use Rattle.clusters.specs.Windows.{counts_of}
use Rattle.control_flow.specs.Greens.{BeginBy, IsLawful, end_of}
use Rattle.control_flow.specs.declared.greens.Green.{Green}
use Rattle.intersection_actor.specs.Acting.{Acting, reading, tells_from, wanting}
use Rattle.intersection_actor.specs.Commits.{Commitment, IsCommit, record_of}
use Rattle.intersection_actor.specs.declared.records.PlanRecord.{PlanRecord}
use Rattle.net_parts.specs.Limits.{most_seconds}
use Rattle.net_parts.specs.Numbers.{Net}
use Rattle.net_parts.specs.Outline.{plan_at}
use Rattle.outflow.specs.Outflow.{departures, told_forecast}
use Rattle.road_net.specs.declared.senses.Sensed.{Sensed}
use Rattle.round_states.specs.States.{IsSensedAt, begin_of, no_sense}
use Rattle.round_states.specs.declared.states.LinkBoard.{LinkBoard}
use Rattle.round_states.specs.declared.states.RoundState.{RoundState}
use Rattle.runs.specs.Runs.{told_in}
use Rattle.round_decisions.specs.Decisions.{AllCommit, board_after, plan_in}
use Rattle.round_decisions.specs.Turns.{ArePublished, IsTurn, board_of, heard_on, hearing_on, next_board, tells}
use Rattle.round_decisions.specs.declared.rounds.Decided.{Decided}
use Rattle.round_decisions.specs.declared.rounds.Waiting.{Waiting}

-- The actor has read the first of its links: what it has heard, and what it will hear of those that are left, is what it hears
-- in all.
pub record HasHeard (boards : List LinkBoard) (a b : Acting) : Type 0 where
  pub whole : b.heard ++ map (hearing_on (board_of boards)) b.left
      ≡ a.heard ++ map (hearing_on (board_of boards)) a.left
  pub there : All (λ link. link < length boards) b.left
  pub want : b.want ≡ reading b.left
  pub actor : b ≡ record a { want = b.want; left = b.left; heard = b.heard }

-- what an actor tells on a link
abbrev pub outgoing : Net → Acting → ℕ → List Row
outgoing net a link =
    told_forecast net link a.sensed.now (departures a.window.lists (counts_of a.window.lists) a.phases a.served)

-- The actor has told on its links below `first`.
pub record HasTold (net : Net) (a b : Acting) (old new : List LinkBoard) : Type 0 where
  pub first : ℕ
  pub actor : b ≡ wanting (tells_from net a.node first) a
  pub count : length new ≡ length old
  pub each : (link : ℕ) → link < length old
      → board_of new link
      ≡ (if tells net a.node link && nat_lt link first then next_board (board_of old link) (outgoing net a link)
      else board_of old link)

-- on each link on which a node tells another one a further version may be published
abbrev pub MayTell : Net → ℕ → List LinkBoard → Type 0
MayTell net node boards =
    (link : ℕ) → link < length boards → IsTrue (tells net node link) → (board_of boards link).version ≤ most_seconds

-- a node may have its turn: what it senses is what its node senses in the round's first second, in which its line goes on
pub record CanTurn (net : Net) (round node : ℕ) (line : List Green) (sensed : Sensed)
    (boards : List LinkBoard) : Type 0 where
  pub node_is : node < length net.node_names
  pub sensed_at : IsSensedAt net (begin_of net round) node sensed
  pub lawful : IsLawful (plan_at net node) line
  pub begins : BeginBy 100000 line
  pub ends : begin_of net round < end_of line
  pub count : length boards ≡ length net.link_names
  pub below : MayTell net node boards

-- an actor that rested has played a round
pub record HasPlayed (net : Net) (round : ℕ) (sensed : Sensed) (old new : List LinkBoard) (a b : Acting) : Type 0 where
  pub made : Commitment
  pub commit : IsCommit net a.node round a.line sensed (heard_on net (board_of old) a.node) made
  pub line : b.line ≡ made.line
  pub records : b.records ≡ a.records ++ record_of a.node round (heard_on net (board_of old) a.node) made ∷ []
  pub later : begin_of net (round + 1) < end_of b.line
  pub boards : ArePublished net a.node (λ link. told_in net round link made) old new

-- the state from which a round is under way
abbrev pub state_of : ℕ → Waiting → Decided → RoundState
state_of round waiting decided =
    record { round = round; sensed = waiting.sensed.items; lines = waiting.lines.items; boards = decided.boards.items }

-- the first node that waits has had its turn
pub record HasTurned (net : Net) (round node : ℕ) (waits rest : Waiting) (old new : Decided) : Type 0 where
  pub sensed : rest.sensed.items ≡ drop 1 waits.sensed.items
  pub lines : rest.lines.items ≡ drop 1 waits.lines.items
  pub plan : PlanRecord
  pub line : List Green
  pub plans_are : new.plans.items ≡ old.plans.items ++ plan ∷ []
  pub lines_are : new.lines.items ≡ old.lines.items ++ line ∷ []
  pub turn : IsTurn net round node (slice_index_or waits.lines.items 0 [])
      (slice_index_or waits.sensed.items 0 no_sense) old.boards.items new.boards.items plan line
  pub later : begin_of net (round + 1) < end_of line

-- the first `nodes` nodes have had their turns
pub record HaveTurned (net : Net) (state : RoundState) (nodes : ℕ) (waiting : Waiting)
    (decided : Decided) : Type 0 where
  pub sensed : waiting.sensed.items ≡ drop nodes state.sensed
  pub lines : waiting.lines.items ≡ drop nodes state.lines
  pub made : ℕ → Commitment
  pub commits : AllCommit net state made nodes
  pub later : (node : ℕ) → node < nodes → begin_of net (state.round + 1) < end_of (made node).line
  pub plans_are : decided.plans.items ≡ map (plan_in net state made) (range_with_len 0 nodes)
  pub lines_are : decided.lines.items ≡ map (λ node. (made node).line) (range_with_len 0 nodes)
  pub count : length decided.boards.items ≡ length state.boards
  pub boards : (link : ℕ) → link < length state.boards
      → board_of decided.boards.items link ≡ board_after net state made nodes link
