-- How a link is counted second by second. No public clause names these definitions.
use Rattle.std.specs.Prelude.{◌≡◌, ℕ, ◌+◌, ◌-◌, ◌<◌, ◌≤◌, ◌^◌, List, length, slice_index}
use Rattle.control_flow.specs.declared.greens.Sign.{Sign}
use Rattle.net_parts.specs.Numbers.{Net}
use Rattle.net_simulator.specs.Counts.{counts_at}
use Rattle.net_simulator.specs.Rows.{cell}
use Rattle.net_simulator.specs.Sums.{link_totals}
use Rattle.net_simulator.specs.declared.totals.LinkTotals.{LinkTotals}
use Rattle.spillback_world.specs.Storage.{cumulative_in}
use Rattle.spillback_world.specs.Worlds.{SpillState, Stands}

-- all that entered a link of a world, by what was counted before its last second
abbrev pub entered_by : LinkTotals → SpillState → ℕ → ℕ
entered_by t w l = t.entered + cell w.recent l (w.second + 127)

-- what is counted of a link with that second too: of all that entered it, what it does not hold any more has left, and its queue waited a second
abbrev pub counted_by : LinkTotals → SpillState → ℕ → LinkTotals
counted_by t w l = record {
  entered = entered_by t w l;
  left = entered_by t w l - slice_index w.held l;
  delay = t.delay + slice_index w.queues l;
}

-- a second more can be counted
pub record CanBeCounted (t : LinkTotals) (w : SpillState) (l : ℕ) : Type 0 where
  pub entered : t.entered < 2 ^ 63
  pub delay : t.delay < 2 ^ 63
  pub held : slice_index w.held l ≤ entered_by t w l

-- after n seconds the world stands for these arrivals, storages and signs, and each link is counted
pub record HaveCounted (net : Net) (arriving : ℕ → ℕ → ℕ) (store : ℕ → ℕ) (shown : ℕ → ℕ → Sign) (n : ℕ)
    (w : SpillState) (counts : List LinkTotals) : Type 0 where
  pub second : w.second ≡ n
  pub stands : Stands net arriving store shown w
  pub count : length counts ≡ length net.link_names
  pub are : (l : ℕ) → l < length net.link_names
      → counts_at counts l ≡ link_totals net (cumulative_in net arriving store shown n) n l
