-- What a node sees of its entry links.
use Rattle.std.specs.Prelude.{ℕ, zero, suc, ◌+◌, ◌-◌, nat_lt, if◌then◌else◌, map, sum, take}
use Rattle.std.specs.List.{range_with_len}
use Rattle.net_parts.specs.Numbers.{Net}
use Rattle.net_parts.specs.Outline.{link_at}
use Rattle.road_net.specs.declared.senses.LinkSense.{LinkSense}
use Rattle.road_net.specs.declared.senses.Sensed.{Sensed}
use Rattle.road_net.specs.Network.{entry_links}
use Rattle.net_simulator.specs.Flow.{Cumulative, queue}

-- what reaches the end of link l in second n + i, in thousandths of a vehicle: what entered the link its time of travel before;
-- `past m l` is what passed it in the first m seconds
abbrev pub coming : Net → (ℕ → ℕ → Cumulative) → ℕ → ℕ → ℕ → ℕ
coming net past n l i =
    (past (n + i + 1 - (link_at net l).travel) l).entered - (past (n + i - (link_at net l).travel) l).entered

-- how many of the seconds before second n, back from it without a break, left a queue on a link
unfoldable pub stood : Net → (ℕ → ℕ → Cumulative) → ℕ → ℕ → ℕ
stood net past zero l = 0
stood net past (suc n) l = if nat_lt 0 (queue net past (suc n) l) then stood net past n l + 1 else 0

-- what is seen of a link in second n: the queue after the second before, what is on its way, and for how long a queue has stood
abbrev pub link_sense : Net → (ℕ → ℕ → Cumulative) → ℕ → ℕ → LinkSense
link_sense net past n l = record {
  link = l;
  queue = queue net past n l;
  coming = map (coming net past n l) (range_with_len 0 (link_at net l).travel);
  stood = stood net past n l;
}

-- what is near on a link that is seen: its queue, and what reaches its end now and in each of the next `gap` seconds
abbrev pub near_of : LinkSense → ℕ → ℕ
near_of seen gap = seen.queue + sum (take (gap + 1) seen.coming)

-- what is near on a link in second n
abbrev pub near_on : Net → (ℕ → ℕ → Cumulative) → ℕ → ℕ → ℕ → ℕ
near_on net past n gap l = near_of (link_sense net past n l) gap

-- what a node sees in second n
abbrev pub sense : Net → (ℕ → ℕ → Cumulative) → ℕ → ℕ → Sensed
sense net past n node = record { now = n; links = map (link_sense net past n) (entry_links net node) }
