-- What the code does in one second of the world, by what it keeps. No public clause names these definitions.
use Rattle.std.specs.Prelude.{◌≡◌, ℕ, ◌+◌, ◌*◌, ◌≤◌, min, if◌then◌else◌, List, Option, Some, None, length, slice_index, slice_index_or}
use Rattle.net_parts.specs.Limits.{most_of_all}
use Rattle.net_parts.specs.Numbers.{Net}
use Rattle.net_parts.specs.Outline.{link_at}
use Rattle.control_flow.specs.declared.greens.Sign.{Sign}
use Rattle.control_flow.specs.declared.greens.Sign.TheVariants.{Dark}
use Rattle.road_net.specs.Totals.{total}
use Rattle.net_simulator.specs.LinkSeconds.{is_open, rate_by}
use Rattle.net_simulator.specs.Sums.{outward}
use Rattle.net_simulator.specs.Worlds.{Stands, WorldState}
use Rattle.net_simulator.specs.declared.totals.LinkTotals.{LinkTotals}

-- what link l discharges, where `ready` has what waits at the end of each link
abbrev pub goes : Net → List Sign → List ℕ → List ℕ → List ℕ → ℕ → ℕ → Option ℕ → ℕ
goes net signs since waits ready x l None = slice_index ready l
goes net signs since waits ready x l (Some node) =
    if is_open net waits since x l node (slice_index_or signs node Dark)
    then min (rate_by net since ready x l) (slice_index ready l) else 0

-- what link l discharges, by the node where it ends
abbrev pub goes_at : Net → List Sign → List ℕ → List ℕ → List ℕ → ℕ → ℕ → ℕ
goes_at net signs since waits ready x l = goes net signs since waits ready x l (link_at net l).to

-- what leaves the network, where links discharge this
abbrev pub goes_out : Net → List ℕ → ℕ
goes_out net leaving = total (λ l. outward (link_at net l).to (slice_index leaving l)) (length net.link_names)

-- the sum of a number for each link
abbrev pub all_of : List ℕ → ℕ → ℕ
all_of amounts links = total (λ l. slice_index amounts l) links

-- what is counted of a link with one more second
abbrev pub counted : LinkTotals → ℕ → ℕ → ℕ → LinkTotals
counted t entering leaving queue =
    record { entered = t.entered + entering; left = t.left + leaving; delay = t.delay + queue }

-- what the first n seconds can count
pub record FitsSeconds (n : ℕ) (t : LinkTotals) : Type 0 where
  pub entered : t.entered ≤ n * most_of_all
  pub left : t.left ≤ n * most_of_all
  pub delay : t.delay ≤ n * most_of_all

-- A world stands with some signs and greens in place of its own, which have a place for each node and link. Of what second its own are, this
-- does not say: they may be of the world's own second, whose lights it has looked at.
pub record IsLookedAt (net : Net) (arriving : ℕ → ℕ → ℕ) (shown : ℕ → ℕ → Sign) (w : WorldState) : Type 0 where
  pub long : length w.signs ≡ length net.node_names
  pub many : length w.since ≡ length net.link_names
  pub signs : List Sign
  pub since : List ℕ
  pub stands : Stands net arriving shown (record {
    second = w.second;
    signs = signs;
    since = since;
    queues = w.queues;
    recent = w.recent;
    waits = w.waits;
    stood = w.stood;
    counts = w.counts;
    totals = w.totals;
    walks = w.walks;
  })
