-- What is counted of a world in which a full link holds back those who want to enter it.
use Rattle.std.specs.Prelude.{◌≡◌, ℕ, ◌+◌, Option, Some, None, length}
use Rattle.net_parts.specs.Numbers.{Net}
use Rattle.net_parts.specs.Outline.{link_at}
use Rattle.road_net.specs.Totals.{total}
use Rattle.net_simulator.specs.Flow.{Cumulative, queue}
use Rattle.net_simulator.specs.Sums.{total_left, on_road}
use Rattle.spillback_world.specs.declared.totals.SpillTotals.{SpillTotals}
use Rattle.spillback_world.specs.Storage.{outside}

-- all that waits outside after n seconds
abbrev pub outside_all : Net → (ℕ → ℕ → ℕ) → (ℕ → ℕ → Cumulative) → ℕ → ℕ
outside_all net arriving past n = total (outside arriving past n) (length net.link_names)

-- what entered a link that comes from no node
abbrev pub from_outside : Option ℕ → ℕ → ℕ
from_outside None amount = amount
from_outside (Some node) amount = 0

-- what the first n seconds have counted: all that entered, all that left, what is on the links, what waits outside, and the delay
-- of what waits on the links and outside
abbrev pub stored_totals : Net → (ℕ → ℕ → ℕ) → (ℕ → ℕ → Cumulative) → ℕ → SpillTotals
stored_totals net arriving past n = record {
  entered = total (λ l. from_outside (link_at net l).from (past n l).entered) (length net.link_names);
  left = total_left net past n;
  on = on_road net past n;
  outside = outside_all net arriving past n;
  delay = total
      (λ x. total (λ l. queue net past (x + 1) l) (length net.link_names) + outside_all net arriving past (x + 1)) n;
}

-- what entered the network has left it or is in it
abbrev pub IsBalanced : SpillTotals → Type 0
IsBalanced t = t.entered ≡ t.left + t.on
