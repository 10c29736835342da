-- What is counted of each link of a world in which a full link holds back those who want to enter it.
use Rattle.std.specs.Prelude.{ℕ, List, length, map}
use Rattle.std.specs.List.{range_with_len}
use Rattle.control_flow.specs.declared.greens.Sign.{Sign}
use Rattle.net_parts.specs.Numbers.{Net}
use Rattle.net_simulator.specs.Sums.{link_totals}
use Rattle.net_simulator.specs.declared.totals.LinkTotals.{LinkTotals}
use Rattle.spillback_world.specs.Storage.{cumulative_in}

-- what the first n seconds have counted of each link, where `arriving second link` comes from outside, `store link` is how much a link
-- can hold and the signals show this: what entered it, what left it, and the sum of its queues after each second
abbrev pub stored_links : Net → (ℕ → ℕ → ℕ) → (ℕ → ℕ) → (ℕ → ℕ → Sign) → ℕ → List LinkTotals
stored_links net arriving store shown n =
    map (link_totals net (cumulative_in net arriving store shown n) n) (range_with_len 0 (length net.link_names))
