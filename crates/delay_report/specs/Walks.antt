-- How far nodes and links have come along a history. No public clause names these definitions.
use Rattle.std.specs.Prelude.{◌≡◌, ℕ, ◌<◌, List, length, map, slice_index, take}
use Rattle.std.specs.List.{range_with_len}
use Rattle.histories.specs.Histories.{count, version_at}
use Rattle.histories.specs.Steps.{board_steps}
use Rattle.histories.specs.declared.steps.BoardStep.{BoardStep}
use Rattle.histories.specs.declared.steps.BoardStep.TheVariants.{Read, Publish}
use Rattle.net_parts.specs.Numbers.{Net}
use Rattle.road_net.specs.Network.{IsNetwork}
use Rattle.delay_report.specs.declared.steps.Walk.{Walk}

-- the link of a step
abbrev pub link_of : BoardStep → ℕ
link_of (Read link) = link
link_of (Publish link) = link

-- at a place of a history: the steps of each node in a round, how many it has taken, and how many forecasts were published on
-- each link
pub record HasWalkedTo (net : Net) (history : List ℕ) (place : ℕ) (walk : Walk) : Type 0 where
  pub network : IsNetwork net
  pub steps : map (λ own. own.items) walk.steps.items ≡ map (board_steps net) (range_with_len 0 (length net.node_names))
  pub nodes : length walk.taken.items ≡ length net.node_names
  pub links : length walk.made.items ≡ length net.link_names
  pub taken : (node : ℕ) → node < length net.node_names
      → slice_index walk.taken.items node ≡ count node (take place history)
  pub made : (link : ℕ) → link < length net.link_names
      → slice_index walk.made.items link ≡ version_at (board_steps net) history link place
