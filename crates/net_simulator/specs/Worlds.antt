-- What a world stands for.
use Rattle.std.specs.Prelude.{◌≡◌, ℕ, ◌+◌, ◌-◌, ◌*◌, ◌<◌, ◌≤◌, Bool, List, [], length, slice_index, slice_index_or}
use Rattle.net_parts.specs.Limits.{most_seconds, most_travel}
use Rattle.net_parts.specs.Numbers.{Net}
use Rattle.control_flow.specs.declared.greens.Green.{Green}
use Rattle.control_flow.specs.Signs.{sign_at}
use Rattle.control_flow.specs.declared.greens.Sign.{Sign}
use Rattle.control_flow.specs.declared.greens.Sign.TheVariants.{Dark}
use Rattle.net_simulator.specs.Flow.{Cumulative, queue, cumulative_under}
use Rattle.arrivals.specs.Amounts.{Amounts, AreArrivals, arriving_of}
use Rattle.net_simulator.specs.Sums.{link_totals, totals}
use Rattle.net_simulator.specs.Rows.{cell, kept_seconds}
use Rattle.net_simulator.specs.LinkGreens.{has_walks, is_green, last_sign, lit_since}
use Rattle.net_simulator.specs.Counts.{counts_at}
use Rattle.net_simulator.specs.Senses.{stood}
use Rattle.net_simulator.specs.declared.totals.LinkTotals.{LinkTotals}
use Rattle.net_simulator.specs.declared.totals.Totals.{Totals}

-- the timeline of a node, where they are given in the order of the nodes; that of a node without one has no row
abbrev pub line_in : List (List Green) → ℕ → List Green
line_in lines node = slice_index_or lines node []

-- the sign of a node in a second, where each node has a timeline
abbrev pub signs_by : (ℕ → List Green) → ℕ → ℕ → Sign
signs_by lines x node = sign_at (lines node) x

-- what a world keeps: its second, the last sign of each node, and for each link since when it is green, its queue, rows of what
-- entered it and of its queues, for how long a queue has stood, and what is counted; and whether a link of the network has a walk
pub record WorldState : Type 0 where
  pub second : ℕ
  pub signs : List Sign
  pub since : List ℕ
  pub queues : List ℕ
  pub recent : List ℕ
  pub waits : List ℕ
  pub stood : List ℕ
  pub counts : List LinkTotals
  pub totals : Totals
  pub walks : Bool

-- it has a place for each node and link
pub record HasShape (net : Net) (w : WorldState) : Type 0 where
  pub signs : length w.signs ≡ length net.node_names
  pub since : length w.since ≡ length net.link_names
  pub queues : length w.queues ≡ length net.link_names
  pub recent : length w.recent ≡ length net.link_names * kept_seconds
  pub waits : length w.waits ≡ length net.link_names * kept_seconds
  pub stood : length w.stood ≡ length net.link_names
  pub counts : length w.counts ≡ length net.link_names
  pub walks : w.walks ≡ has_walks net

-- What is kept of the links is what passed them in the first x seconds: the queues, what entered in each of the last 120
-- seconds, and the queues after the last 120 seconds and now.
pub record Keeps (net : Net) (past : ℕ → ℕ → Cumulative) (qs rs ws : List ℕ) (x : ℕ) : Type 0 where
  pub queues : (l : ℕ) → l < length net.link_names → slice_index qs l ≡ queue net past x l
  pub recent : (l d : ℕ) → l < length net.link_names → 1 ≤ d → d ≤ most_travel
      → cell rs l (x + kept_seconds - d) ≡ (past (x + 1 - d) l).entered - (past (x - d) l).entered
  pub waits : (l d : ℕ) → l < length net.link_names → d ≤ most_travel
      → cell ws l (x + kept_seconds - d) ≡ queue net past (x - d) l

-- What is kept of lights is what the nodes showed in the first x seconds: the last sign of each node, and since when each link is green.
pub record AreShown (net : Net) (shown : ℕ → ℕ → Sign) (x : ℕ) (last : List Sign) (lit : List ℕ) : Type 0 where
  pub signs : (node : ℕ) → node < length net.node_names → slice_index_or last node Dark ≡ last_sign shown x node
  pub since : (l : ℕ) → l < length net.link_names → slice_index lit l ≡ lit_since (is_green net shown l) x

-- All that a world keeps is what the definition gives for a network, arrivals and what is shown over the seconds below its own.
pub record Stands (net : Net) (arriving : ℕ → ℕ → ℕ) (shown : ℕ → ℕ → Sign) (w : WorldState) : Type 0 where
  pub shape : HasShape net w
  pub by : w.second ≤ most_seconds
  pub keeps : Keeps net (cumulative_under net arriving shown w.second) w.queues w.recent w.waits w.second
  pub counts : (l : ℕ) → l < length net.link_names
      → counts_at w.counts l ≡ link_totals net (cumulative_under net arriving shown w.second) w.second l
  pub totals : w.totals ≡ totals net arriving (cumulative_under net arriving shown w.second) w.second
  pub stood : (l : ℕ) → l < length net.link_names
      → slice_index w.stood l ≡ stood net (cumulative_under net arriving shown w.second) w.second l
  pub lights : AreShown net shown w.second w.signs w.since

-- a world stands for this network with some arrivals and timelines
pub record IsWorldOf (net : Net) (w : WorldState) : Type 0 where
  pub arrivals : Amounts
  pub lines : ℕ → List Green
  pub enter : AreArrivals net arrivals
  pub stands : Stands net (arriving_of arrivals) (signs_by lines) w
