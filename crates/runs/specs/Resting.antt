-- Actors between the rounds, new ones and those that rest; and the plans of the rounds that are done.
use Rattle.std.specs.Global.{Vec}
use Rattle.std.specs.Prelude.{◌≡◌, ℕ, ◌*◌, ◌<◌, ◌≤◌, List, [], length, map, slice_index_or, vec_capacity}
use Rattle.board_model.specs.declared.boards.Heard.{Heard}
use Rattle.control_flow.specs.Greens.{end_of}
use Rattle.control_flow.specs.declared.greens.Green.{Green}
use Rattle.intersection_actor.specs.Acting.{Acting}
use Rattle.intersection_actor.specs.Commits.{Commitment}
use Rattle.intersection_actor.specs.Rounds.{IsNew, IsOf}
use Rattle.intersection_actor.specs.declared.records.PlanRecord.{PlanRecord}
use Rattle.intersection_actor.specs.declared.records.Want.TheVariants.{Done}
use Rattle.net_parts.specs.Numbers.{Net}
use Rattle.runs.specs.Runs.{line_before, plans_of}

-- the lines of actors by their place
abbrev pub lines_of : List Acting → ℕ → List Green
lines_of actors node = slice_index_or (map (λ (a : Acting). a.line) actors) node []

-- the first `nodes` nodes have new actors
pub record AreNew (net : Net) (nodes : ℕ) (actors : List Acting) : Type 0 where
  pub all : length actors ≡ nodes
  pub new : (node : ℕ) (a : Acting) → node < nodes → IsNew net node (slice_index_or actors node a)
  pub of : (node : ℕ) (a : Acting) → node < nodes → IsOf net (slice_index_or actors node a)

-- A node rests before a round, where `made round node` is the commit of a node in a round. It has no plan record, since those of
-- earlier rounds are in the plans of the run.
pub record Rests (net : Net) (made : ℕ → ℕ → Commitment) (round node : ℕ) (a : Acting) : Type 0 where
  pub node_is : a.node ≡ node
  pub of : IsOf net a
  pub want : a.want ≡ Done
  pub line : a.line ≡ line_before net made round node
  pub ahead : round * net.run.step < end_of a.line
  pub records : a.records ≡ []

-- A list has the plans of the first `rounds` rounds, and capacity for those of all, where `heard round node` is what a node has heard
-- in a round, and `made round node` is its commit.
pub record HasPlans (net : Net) (heard : ℕ → ℕ → List Heard) (made : ℕ → ℕ → Commitment) (rounds : ℕ)
    (plans : Vec PlanRecord) : Type 0 where
  pub done : plans.items ≡ plans_of net heard made rounds
  pub capacity : net.run.rounds * length net.node_names ≤ vec_capacity plans
