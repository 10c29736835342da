-- The plan records of a run by themselves.
use Rattle.std.specs.Prelude.{◌≡◌, ℕ, ◌<◌, ◌≤◌, List, Contains, length, map, slice_index}
use Rattle.board_model.specs.declared.boards.Heard.{Heard}
use Rattle.clusters.specs.declared.vehicle_groups.Platoon.{Platoon}
use Rattle.clusters.specs.declared.vehicle_groups.Window.{Window}
use Rattle.histories.specs.Histories.{round_at, step_at, version_at}
use Rattle.histories.specs.Steps.{board_steps}
use Rattle.histories.specs.declared.steps.BoardStep.TheVariants.{Read}
use Rattle.intersection_actor.specs.Commits.{Commitment, IsProblemOf}
use Rattle.intersection_actor.specs.declared.records.PlanRecord.{PlanRecord}
use Rattle.intersection_actor.specs.declared.records.Used.{Used}
use Rattle.net_parts.specs.Numbers.{Net}
use Rattle.road_net.specs.Network.{heard_links}
use Rattle.switch_rules.specs.declared.Head.{Head}
use Rattle.runs.specs.Runs.{hearing, line_before, sensed_in}

-- a plan record is that of the node and the round of a place
pub record IsOfPlace (net : Net) (history : List ℕ) (place : ℕ) (plan : PlanRecord) : Type 0 where
  pub node : plan.node ≡ slice_index history place
  pub round : plan.round ≡ round_at (board_steps net) history place

-- A plan's record names the versions that it used: one for each entry link of its node that comes from a node, in the order of the
-- links' numbers. Wherever the node reads a link in the round of the plan, it is the version that the link has at that place of the
-- history: how often it was published before.
pub record NamesVersions (net : Net) (history : List ℕ) (plan : PlanRecord) : Type 0 where
  pub links : map (λ (u : Used). u.link) plan.used ≡ heard_links net plan.node
  pub versions : (place link : ℕ) → place < length history → IsOfPlace net history place plan
      → step_at (board_steps net) history place ≡ Read link
      → Contains plan.used (record { link = link; version = version_at (board_steps net) history link place })

-- No plan uses an older version of a link than an earlier plan of its node.
abbrev pub NeverOlder : List PlanRecord → Type 0
NeverOlder plans =
    (early late : PlanRecord) (before now : Used) → Contains plans early → Contains plans late → early.node ≡ late.node
    → early.round < late.round
    → Contains early.used before → Contains late.used now → before.link ≡ now.link → before.version ≤ now.version

-- what a plan heard: the versions that it names, with the forecasts that were published as these versions
abbrev pub heard_by : Net → (ℕ → ℕ → Commitment) → PlanRecord → List Heard
heard_by net made plan = map (λ (u : Used). hearing net made u.link u.version) plan.used

-- The instance of a plan is that of just the versions that it names: it is what the node has to plan, from its line when the round
-- begins, from what it senses then, and from the forecasts of those versions.
pub record IsPlannedFrom (net : Net) (arriving : ℕ → ℕ → ℕ) (made : ℕ → ℕ → Commitment)
    (plan : PlanRecord) : Type 0 where
  pub head : Head
  pub platoons : List (List Platoon)
  pub window : Window
  pub instance : IsProblemOf net plan.node (line_before net made plan.round plan.node)
      (sensed_in net arriving made plan.round plan.node) (heard_by net made plan) head platoons window plan.instance
