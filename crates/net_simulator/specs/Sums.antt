-- Sums over the links of a network.
use Rattle.std.specs.Prelude.{ℕ, ◌+◌, ◌-◌, ◌*◌, ◌≤◌, Option, None, Some, length}
use Rattle.net_parts.specs.Limits.{most_of_all}
use Rattle.net_parts.specs.Numbers.{Net}
use Rattle.net_parts.specs.Outline.{link_at}
use Rattle.road_net.specs.Totals.{total}
use Rattle.net_simulator.specs.Flow.{Cumulative, queue}
use Rattle.net_simulator.specs.declared.totals.LinkTotals.{LinkTotals}
use Rattle.net_simulator.specs.declared.totals.Totals.{Totals}

-- what a link discharges out of the network: all of it, where it ends at no node
abbrev pub outward : Option ℕ → ℕ → ℕ
outward None amount = amount
outward (Some node) amount = 0

-- all that arrives in the first n seconds
abbrev pub total_arrived : Net → (ℕ → ℕ → ℕ) → ℕ → ℕ
total_arrived net arriving n = total (λ x. total (arriving x) (length net.link_names)) n

-- All that ever arrives is at most 2,000,000,000. No public clause names it.
abbrev pub AreFew : Net → (ℕ → ℕ → ℕ) → Type 0
AreFew net arriving = (n : ℕ) → total_arrived net arriving n ≤ most_of_all

-- all that left the network in the first n seconds
abbrev pub total_left : Net → (ℕ → ℕ → Cumulative) → ℕ → ℕ
total_left net past n = total (λ l. outward (link_at net l).to (past n l).left) (length net.link_names)

-- all that is on the links of the network after the first n seconds
abbrev pub on_road : Net → (ℕ → ℕ → Cumulative) → ℕ → ℕ
on_road net past n = total (λ l. (past n l).entered - (past n l).left) (length net.link_names)

-- the delay of a link in the first n seconds: the sum of its queues after each of them
abbrev pub delay : Net → (ℕ → ℕ → Cumulative) → ℕ → ℕ → ℕ
delay net past n l = total (λ x. queue net past (x + 1) l) n

-- what the first n seconds have counted of a link
abbrev pub link_totals : Net → (ℕ → ℕ → Cumulative) → ℕ → ℕ → LinkTotals
link_totals net past n l = record { entered = (past n l).entered; left = (past n l).left; delay = delay net past n l }

-- what the first n seconds have counted of the whole network
abbrev pub totals : Net → (ℕ → ℕ → ℕ) → (ℕ → ℕ → Cumulative) → ℕ → Totals
totals net arriving past n = record {
  entered = total_arrived net arriving n;
  left = total_left net past n;
  on = on_road net past n;
  delay = total (delay net past n) (length net.link_names);
}

-- the second after the last round
abbrev pub end_of_run : Net → ℕ
end_of_run net = net.run.rounds * net.run.step
