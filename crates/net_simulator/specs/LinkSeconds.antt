-- What a second is at a link, by what a world keeps: a number for each link, or a row of 128 seconds for each.
use Rattle.std.specs.Prelude.{◌≡◌, ℕ, ◌+◌, ◌-◌, ◌<◌, nat_le, nat_lt, Bool, not, ◌&&◌, if◌then◌else◌, List, None, Some, length, map, slice_index, slice_index_or}
use Rattle.std.specs.List.{list_any, range_with_len}
use Rattle.net_parts.specs.Numbers.{Net}
use Rattle.net_parts.specs.Outline.{link_at, plan_at, yields_at}
use Rattle.road_net.specs.declared.senses.LinkSense.{LinkSense}
use Rattle.control_flow.specs.declared.greens.Sign.{Sign}
use Rattle.control_flow.specs.declared.greens.Sign.TheVariants.{Dark}
use Rattle.net_simulator.specs.Flow.{is_lost}
use Rattle.net_simulator.specs.LinkGreens.{lit_on, loss_of}
use Rattle.net_simulator.specs.Rows.{cell, kept_seconds}

-- For each link without a walk that ends at a node, `since` is what it is after second x too, if the nodes show these signs in it: a second up to
-- x where the link is green under its node's sign, and `never` where it is not.
abbrev pub AreLit : Net → ℕ → List Sign → List ℕ → Type 0
AreLit net x signs since =
    (l node : ℕ) → l < length net.link_names → (link_at net l).to ≡ Some node → (link_at net l).walk ≡ None
    → slice_index since l ≡ lit_on net l x (slice_index_or signs node Dark) (slice_index since l)

-- whether link l of a node may discharge in second x under this sign, where `waits` has the queues after each second, and `since` the second
-- since which each link is green
abbrev pub is_open : Net → List ℕ → List ℕ → ℕ → ℕ → ℕ → Sign → Bool
is_open net waits since x l node sign =
    let from = slice_index since l in
    nat_le from x && not (is_lost (loss_of (plan_at net node) sign) from x (cell waits l from))

-- whether a link is busy in second x, where `since` has the second since which each link is green, and `ready` what waits at the end of each
abbrev pub is_busy_by : List ℕ → List ℕ → ℕ → ℕ → Bool
is_busy_by since ready x l = nat_le (slice_index since l) x && nat_lt 0 (slice_index ready l)

-- what link l discharges at the most in second x, where it may
abbrev pub rate_by : Net → List ℕ → List ℕ → ℕ → ℕ → ℕ
rate_by net since ready x l =
    if list_any (is_busy_by since ready x) (yields_at net l) then (link_at net l).yield_sat else (link_at net l).sat

-- what waits at the end of link l: its queue, and what entered it one travel time ago
abbrev pub waits_at : Net → List ℕ → List ℕ → ℕ → ℕ → ℕ
waits_at net queues recent x l = slice_index queues l + cell recent l (x + kept_seconds - (link_at net l).travel)

-- for how many seconds a queue has stood after one more of them, by the queue after it
abbrev pub stands_on : ℕ → ℕ → ℕ
stands_on queue stood = if nat_lt 0 queue then stood + 1 else 0

-- what is seen of a link in second n, by the queues, the rows of what entered, and for how long queues have stood
abbrev pub seen_by : Net → List ℕ → List ℕ → List ℕ → ℕ → ℕ → LinkSense
seen_by net queues recent standing n l = record {
  link = l;
  queue = slice_index queues l;
  coming = map (λ i. cell recent l (n + kept_seconds - (link_at net l).travel + i))
      (range_with_len 0 (link_at net l).travel);
  stood = slice_index standing l;
}
