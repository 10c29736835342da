-- Board steps: what a node does at the boards in each round.
use Rattle.std.specs.Prelude.{◌≡◌, ℕ, ◌≤◌, ◌==◌, Bool, false, List, [], ◌∷◌, ◌++◌, Option, Some, None, is_some, length, map, filter, if◌then◌else◌, unwrap_or}
use Rattle.net_parts.specs.Limits.{most_links}
use Rattle.net_parts.specs.Numbers.{Net}
use Rattle.net_parts.specs.Outline.{link_at}
use Rattle.road_net.specs.Network.{heard_links, told_links}
use Rattle.histories.specs.declared.steps.BoardStep.{BoardStep}
use Rattle.histories.specs.declared.steps.BoardStep.TheVariants.{Read, Publish}

-- the Reads of a node in a round: of each link on which it hears another node, in the order of the links
abbrev pub readings : Net → ℕ → List BoardStep
readings net node = map Read (heard_links net node)

-- the Publishes of a node in a round: on each link on which it tells another node, in the order of the links
abbrev pub publishings : Net → ℕ → List BoardStep
publishings net node = map Publish (told_links net node)

-- the board steps of a node in a round: its Reads, and then its Publishes
abbrev pub board_steps : Net → ℕ → List BoardStep
board_steps net node = readings net node ++ publishings net node

-- whether a board step is a publishing on the link with this number
abbrev pub is_publish_of : ℕ → BoardStep → Bool
is_publish_of link (Read read) = false
is_publish_of link (Publish published) = published == link

-- whether a board step is a reading of the link with this number
abbrev pub is_read_of : ℕ → BoardStep → Bool
is_read_of link (Read read) = read == link
is_read_of link (Publish published) = false

-- the node that publishes on a link: that at its begin
abbrev pub publisher : Net → ℕ → ℕ
publisher net link = unwrap_or (link_at net link).from 0

-- the step, if this is the node
abbrev pub step_if : Option ℕ → ℕ → BoardStep → List BoardStep
step_if None node step = []
step_if (Some n) node step = if n == node then step ∷ [] else []

-- Who plays on a link, each once in a round: on one that comes from a node and ends at one, the node at its begin publishes
-- and the node at its end reads. On any other link nobody does.
pub record IsPlayedByEnds (net : Net) (link : ℕ) : Type 0 where
  pub publishes : (node : ℕ)
      → filter (is_publish_of link) (board_steps net node)
      ≡ (if is_some (link_at net link).to then step_if (link_at net link).from node (Publish link) else [])
  pub reads : (node : ℕ)
      → filter (is_read_of link) (board_steps net node)
      ≡ (if is_some (link_at net link).from then step_if (link_at net link).to node (Read link) else [])

-- What is true of the steps of every network: there are none past the last node, a node has few, and the ends of each link
-- play on it.
pub record AreSteps (net : Net) : Type 0 where
  pub beyond : (node : ℕ) → length net.node_names ≤ node → board_steps net node ≡ []
  pub few : (node : ℕ) → length (board_steps net node) ≤ most_links
  pub players : (link : ℕ) → IsPlayedByEnds net link
