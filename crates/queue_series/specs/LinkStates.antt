-- What is kept of the links while their queues are written. No public clause names these definitions.
use Rattle.std.specs.Prelude.{◌≡◌, ℕ, ◌-◌, ◌<◌, ◌≤◌, ◌==◌, ◌&&◌, Bool, nat_lt, if◌then◌else◌, List, [], ◌∷◌, length, slice_index_or}
use Rattle.std.specs.Fmt.{decimal}
use Rattle.net_parts.specs.Numbers.{Net}
use Rattle.net_parts.specs.Outline.{link_name_at}
use Rattle.net_simulator.specs.Counts.{counts_at}
use Rattle.net_simulator.specs.Flow.{Cumulative, queue}
use Rattle.net_simulator.specs.Sums.{delay}
use Rattle.net_simulator.specs.Worlds.{WorldState}
use Rattle.net_simulator.specs.declared.totals.LinkTotals.{LinkTotals}
use Rattle.queue_series.specs.Series.{IsPeak, on_link}
use Rattle.queue_series.specs.declared.link_states.Peak.{Peak}
use Rattle.queue_series.specs.declared.link_states.LinkState.{LinkState}

-- what is kept of an empty link
abbrev pub first_state : LinkState
first_state = record { delay = 0; queue = 0; on = 0; peak = record { queue = 0; second = 0 } }

-- what is kept of the link with this number
abbrev pub state_at : List LinkState → ℕ → LinkState
state_at link_states l = slice_index_or link_states l first_state

-- the longest queue that is kept of the link with this number
abbrev pub peak_of : List LinkState → ℕ → Peak
peak_of link_states l = (state_at link_states l).peak

-- the longest queue with one more, and what is kept with one more second
abbrev pub next_peak : Peak → ℕ → ℕ → Peak
next_peak peak queue second = if nat_lt peak.queue queue then record { queue = queue; second = second } else peak

abbrev pub next_state : LinkState → LinkTotals → ℕ → LinkState
next_state before totals second = record {
  delay = totals.delay;
  queue = totals.delay - before.delay;
  on = totals.entered - totals.left;
  peak = next_peak before.peak (totals.delay - before.delay) second;
}

-- the totals of a link can be those of a second later
pub record CanGoOn (before : LinkState) (totals : LinkTotals) : Type 0 where
  pub delay : before.delay ≤ totals.delay
  pub on : totals.left ≤ totals.entered

-- what is kept with the second that a world has moved by
abbrev pub next_at : WorldState → List LinkState → ℕ → LinkState
next_at world link_states l = next_state (state_at link_states l) (counts_at world.counts l) world.second

-- the queue and what is on the link are the same
abbrev pub are_same : LinkState → LinkState → Bool
are_same before after = (before.queue == after.queue) && (before.on == after.on)

-- the record of a link at a second by what is kept, and where it is not still
abbrev pub state_record : Net → ℕ → ℕ → LinkState → List (List ℕ)
state_record net l second state = decimal second ∷ link_name_at net l ∷ decimal state.queue ∷ decimal state.on ∷ []

abbrev pub kept_records : Net → WorldState → List LinkState → ℕ → List (List (List ℕ))
kept_records net world link_states l =
    if are_same (state_at link_states l) (next_at world link_states l) then []
    else state_record net l world.second (next_at world link_states l) ∷ []

-- in each link before number k the state has moved on, and the others are as they were
pub record HaveMoved (world : WorldState) (old : List LinkState) (k : ℕ) (new : List LinkState) : Type 0 where
  pub count : length new ≡ length old
  pub moved : (l : ℕ) → l < k → state_at new l ≡ next_at world old l
  pub rest : (l : ℕ) → k ≤ l → state_at new l ≡ state_at old l

-- this is kept of a link at second n
pub record IsLinkState (net : Net) (past : ℕ → ℕ → Cumulative) (n l : ℕ) (state : LinkState) : Type 0 where
  pub delay : state.delay ≡ delay net past n l
  pub queue : state.queue ≡ queue net past n l
  pub on : state.on ≡ on_link past n l
  pub peak : IsPeak net past n l state.peak

-- and of all links
pub record AreLinkStates (net : Net) (past : ℕ → ℕ → Cumulative) (n : ℕ) (link_states : List LinkState) : Type 0 where
  pub count : length link_states ≡ length net.link_names
  pub are : (l : ℕ) → l < length net.link_names → IsLinkState net past n l (state_at link_states l)
