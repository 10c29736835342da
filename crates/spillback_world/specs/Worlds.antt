-- What a world whose links hold so much and no more stands for.
use Rattle.std.specs.Prelude.{◌≡◌, ℕ, ◌-◌, ◌*◌, ◌<◌, ◌≤◌, Bool, List, length, slice_index}
use Rattle.net_parts.specs.Limits.{most_seconds}
use Rattle.control_flow.specs.declared.greens.Green.{Green}
use Rattle.arrivals.specs.Amounts.{Amounts, AreArrivals, arriving_of}
use Rattle.net_parts.specs.Numbers.{Net}
use Rattle.net_simulator.specs.Rows.{kept_seconds}
use Rattle.net_simulator.specs.LinkGreens.{has_walks}
use Rattle.net_simulator.specs.Senses.{stood}
use Rattle.net_simulator.specs.Worlds.{AreShown, Keeps, signs_by}
use Rattle.spillback_world.specs.declared.totals.SpillTotals.{SpillTotals}
use Rattle.spillback_world.specs.StoredTotals.{stored_totals}
use Rattle.spillback_world.specs.Storage.{outside, cumulative_in}
use Rattle.control_flow.specs.declared.greens.Sign.{Sign}

-- what a world keeps: its second, the last sign of each node, whether a link of the network has a walk, and for each link since when it is
-- green, its queue, rows of what entered it and of its queues, for how long a queue has stood, what waits outside of it, and what is on
-- it; and what is counted
pub record SpillState : Type 0 where
  pub second : ℕ
  pub signs : List Sign
  pub since : List ℕ
  pub walks : Bool
  pub queues : List ℕ
  pub recent : List ℕ
  pub waits : List ℕ
  pub stood : List ℕ
  pub outside : List ℕ
  pub held : List ℕ
  pub totals : SpillTotals

-- it has a place for each node and link
pub record HasShape (net : Net) (w : SpillState) : Type 0 where
  pub signs : length w.signs ≡ length net.node_names
  pub since : length w.since ≡ length net.link_names
  pub walks : w.walks ≡ has_walks net
  pub queues : length w.queues ≡ length net.link_names
  pub recent : length w.recent ≡ length net.link_names * kept_seconds
  pub waits : length w.waits ≡ length net.link_names * kept_seconds
  pub stood : length w.stood ≡ length net.link_names
  pub outside : length w.outside ≡ length net.link_names
  pub held : length w.held ≡ length net.link_names

-- All that a world keeps is what the definition gives for a network, arrivals, storages and what is shown over the seconds below its
-- own.
pub record Stands (net : Net) (arriving : ℕ → ℕ → ℕ) (store : ℕ → ℕ) (shown : ℕ → ℕ → Sign)
    (w : SpillState) : Type 0 where
  pub shape : HasShape net w
  pub by : w.second ≤ most_seconds
  pub keeps : Keeps net (cumulative_in net arriving store shown w.second) w.queues w.recent w.waits w.second
  pub held : (l : ℕ) → l < length net.link_names
      → slice_index w.held l
      ≡ (cumulative_in net arriving store shown w.second w.second l).entered
      - (cumulative_in net arriving store shown w.second w.second l).left
  pub totals : w.totals ≡ stored_totals net arriving (cumulative_in net arriving store shown w.second) w.second
  pub stood : (l : ℕ) → l < length net.link_names
      → slice_index w.stood l ≡ stood net (cumulative_in net arriving store shown w.second) w.second l
  pub outside : (l : ℕ) → l < length net.link_names
      → slice_index w.outside l ≡ outside arriving (cumulative_in net arriving store shown w.second) w.second l
  pub lights : AreShown net shown w.second w.signs w.since

-- a world stands for this network with some arrivals, storages and timelines
pub record IsWorldOf (net : Net) (w : SpillState) : Type 0 where
  pub arrivals : Amounts
  pub store : ℕ → ℕ
  pub lines : ℕ → List Green
  pub enter : AreArrivals net arrivals
  pub stands : Stands net (arriving_of arrivals) store (signs_by lines) w
