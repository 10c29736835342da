-- How far the nodes are between the rounds, and what a round of all nodes is.
use Rattle.std.specs.Prelude.{◌≡◌, ℕ, zero, suc, ◌-◌, ◌*◌, ◌<◌, ◌≤◌, List, [], ◌++◌, All, length, map, slice_index_or}
use Rattle.std.specs.Global.{Vec}
use Rattle.arrivals.specs.Amounts.{Amounts, arriving_of}
use Rattle.atomic_table.specs.Seated.{TableId}
use Rattle.board_model.specs.declared.boards.Heard.{Heard}
use Rattle.board_model.specs.declared.calls.Call.{Call}
use Rattle.link_boards.specs.Passes.{AreAllPasses, BoardsView, PassView, calls_in}
use Rattle.histories.specs.Steps.{board_steps}
use Rattle.intersection_actor.specs.Acting.{Acting}
use Rattle.intersection_actor.specs.Commits.{Commitment}
use Rattle.intersection_actor.specs.declared.records.PlanRecord.{PlanRecord}
use Rattle.histories.specs.Calls.{IsRising}
use Rattle.net_parts.specs.Numbers.{Net}
use Rattle.net_simulator.specs.Worlds.{WorldState, Stands}
use Rattle.runs.specs.Runs.{AllCommit, shown_by}
use Rattle.node_rounds.specs.Nodes.{CanPlay, HasPlayed}
use Rattle.runs.specs.Resting.{HasPlans, Rests}
use Rattle.node_rounds.specs.Told.{AreCallsOf}

-- the boards and the number of each pass
abbrev pub names : List PassView → List (TableId × ℕ)
names passes = map (λ (p : PassView). (p.boards, p.number)) passes

-- the passes are still of the same boards, with the same numbers
abbrev pub AreSamePasses : List PassView → List PassView → Type 0
AreSamePasses old new = names new ≡ names old

-- each of these nodes may play a round
pub record CanAllPlay (net : Net) (round : ℕ) (world : WorldState) (boards : BoardsView) (planners : ℕ)
    (actors : List Acting) (passes : List PassView) : Type 0 where
  pub planned : planners ≡ length passes
  pub acted : length actors ≡ length passes
  pub each : (k : ℕ) (a : Acting) (p : PassView) → k < length passes
      → CanPlay net round world boards (slice_index_or actors k a) (slice_index_or passes k p)

-- each of these nodes has played a round
pub record HaveAllPlayed (net : Net) (round : ℕ) (world : WorldState) (old new : List Acting)
    (before after : List PassView) : Type 0 where
  pub actors : length new ≡ length old
  pub passes : length after ≡ length before
  pub each : (k : ℕ) (a : Acting) (p : PassView) → k < length before
      → HasPlayed net round world (slice_index_or old k a) (slice_index_or new k a) (slice_index_or before k p)
      (slice_index_or after k p)

-- Below, `heard round node` is what a node has heard in a round, and `made round node` its commit.
module _ (net : Net) (heard : ℕ → ℕ → List Heard) (made : ℕ → ℕ → Commitment) where
  -- the last round of all nodes: their calls split into earlier ones, with stamps below a mark, and those of the round, with stamps
  -- from it on
  pub record AreRoundOf (round mark : ℕ) (calls early last : ℕ → List Call) : Type 0 where
    pub split : (node : ℕ) → calls node ≡ early node ++ last node
    pub own : (node : ℕ) → AreCallsOf net round node (heard round node) (made round node) (last node)
    pub below : (node : ℕ) → All (λ call. call.stamp < mark) (early node)
    pub above : (node : ℕ) → All (λ call. mark ≤ call.stamp) (last node)

  -- the calls of `rounds` rounds
  abbrev pub AreCallsIn : ℕ → (ℕ → List Call) → Type 0
  AreCallsIn zero calls = (node : ℕ) → calls node ≡ []
  AreCallsIn (suc rounds) calls = (early last : ℕ → List Call) × (mark : ℕ) × AreRoundOf rounds mark calls early last
      × AreCallsIn rounds early

-- The passes of all nodes, each with calls left for the rounds from `round` on: they are all passes of the boards, and no stamp that they may
-- draw next is below a mark.
pub record HaveLeft (net : Net) (boards : BoardsView) (round mark : ℕ) (passes : List PassView) : Type 0 where
  pub all : length passes ≡ length net.node_names
  pub own : AreAllPasses boards passes
  pub left : (node : ℕ) (p : PassView) → node < length net.node_names
      → (net.run.rounds - round) * length (board_steps net node) ≤ (slice_index_or passes node p).left
  pub known : (node : ℕ) (p : PassView) → node < length net.node_names → mark ≤ (slice_index_or passes node p).known

-- Between two rounds: `round` are done, each node rests, the world is at the begin of the next round, and the calls of the passes
-- and the plans are those of the rounds that are done. The list of the plans has capacity for those of all rounds.
pub record Between (net : Net) (arrivals : Amounts) (boards : BoardsView) (round : ℕ) (passes : List PassView)
    (actors : List Acting) (world : WorldState) (plans : Vec PlanRecord) : Type 0 where
  pub heard : ℕ → ℕ → List Heard
  pub made : ℕ → ℕ → Commitment
  pub mark : ℕ
  pub most : round ≤ net.run.rounds
  pub commits : AllCommit net (arriving_of arrivals) heard made round
  pub second : world.second ≡ round * net.run.step
  pub stands : Stands net (arriving_of arrivals) (shown_by net made) world
  pub all : length actors ≡ length net.node_names
  pub rests : (node : ℕ) (a : Acting) → node < length net.node_names
      → Rests net made round node (slice_index_or actors node a)
  pub planned : HasPlans net heard made round plans
  pub own : HaveLeft net boards round mark passes
  pub calls : AreCallsIn net heard made round (calls_in passes)
  pub rising : (node : ℕ) → IsRising (calls_in passes node)
  pub below : (node : ℕ) → All (λ call. call.stamp < mark) (calls_in passes node)
