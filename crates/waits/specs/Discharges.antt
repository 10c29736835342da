-- For how long a queue may wait until something leaves it.
use Rattle.std.specs.Prelude.{◌≡◌, ℕ, ◌+◌, ◌-◌, ◌*◌, ◌<◌, ◌≤◌, nat_lt, max, min, if◌then◌else◌, IsTrue, List, Option, None, Some, length}
use Rattle.std.specs.Prelude.{Result, Ok, Err}
use Rattle.std.specs.List.{fold, range_with_len}
use Rattle.std.specs.Option.{option_map_or}
use Rattle.net_parts.specs.Numbers.{Net}
use Rattle.net_parts.specs.declared.roads.Link.{Link}
use Rattle.net_parts.specs.Outline.{link_at, plan_at}
use Rattle.phase_plan.specs.Phases.{is_unmarked_at, phase_at}
use Rattle.phase_plan.specs.declared.Phase.{Phase}
use Rattle.control_flow.specs.Greens.{IsLawful, end_of, row_at}
use Rattle.control_flow.specs.declared.greens.Green.{Green}
use Rattle.net_simulator.specs.Flow.{Cumulative, queue}
use Rattle.waits.specs.Waits.{AreIntergreensWithin, longest_intergreen, longest_red}
use Rattle.waits.specs.declared.bounds.NoBound.{NoBound}
use Rattle.waits.specs.declared.bounds.NoBound.TheVariants.{Marked, ShortGreen}

-- something leaves a link after the first n seconds and in the first m
abbrev pub Discharges : (ℕ → ℕ → Cumulative) → ℕ → ℕ → ℕ → Type 0
Discharges past l n m = (past n l).left < (past m l).left

-- the longest time that a queue of phase k waits until something leaves it: the longest red, the start-up of the green, and the
-- second in which it leaves
abbrev pub longest_wait : List Phase → (ℕ → ℕ) → ℕ → ℕ
longest_wait plan intergreen k = longest_red plan intergreen k + (phase_at plan k).loss + 1

-- the longest of the intergreens after the phases of a plan
abbrev pub greatest_intergreen : List Phase → (ℕ → ℕ) → ℕ
greatest_intergreen plan intergreen = fold (λ most k. max most (intergreen k)) 0 (range_with_len 0 (length plan))

-- The longest time that a queue of phase k waits until something leaves it, where this many seconds may pass until a round begins from
-- which on the signal stops at the phase in each turn: those seconds, an intergreen that is under way then, and the longest wait.
abbrev pub recalled_wait : List Phase → (ℕ → ℕ) → ℕ → ℕ → ℕ
recalled_wait plan intergreen until_recalled k =
    until_recalled + greatest_intergreen plan intergreen + longest_wait plan intergreen k

-- this many seconds, where the least green of phase k is longer than its start-up: else its greens may be over before anything leaves
abbrev pub green_bound : List Phase → ℕ → ℕ → Result ℕ NoBound
green_bound plan k wait = if nat_lt (phase_at plan k).loss (phase_at plan k).least then Ok wait else Err ShortGreen

-- Within how many seconds each queue of a link of phase k, one without a walk, loses something, where the intergreens are within these.
-- A marked phase, which the ring may leave out, has such a bound only where `until_recalled` is a number: a round then begins, no more
-- than that many seconds after the begin of a queue, from which on the signal stops at the phase. A phase whose least green is no longer
-- than its start-up has none.
abbrev pub wait_bound : List Phase → (ℕ → ℕ) → Option ℕ → ℕ → Result ℕ NoBound
wait_bound plan intergreen until_recalled k =
    if is_unmarked_at plan k then green_bound plan k (longest_wait plan intergreen k)
    else option_map_or (λ seconds. green_bound plan k (recalled_wait plan intergreen seconds k)) until_recalled
    (Err Marked)

-- the longest intergreens of the nodes where no signal waits in all-red beyond `look` seconds from the end of a green
abbrev pub intergreens_of : Net → ℕ → ℕ → ℕ → ℕ
intergreens_of net look node = longest_intergreen (plan_at net node) look

-- within how many seconds each queue of a link of phase k of a node, one without a walk, loses something, whoever makes the timelines,
-- where the intergreens of the nodes are within these
abbrev pub wait_bounds : Net → (ℕ → ℕ → ℕ) → ℕ → ℕ → Result ℕ NoBound
wait_bounds net intergreens node k = wait_bound (plan_at net node) (intergreens node) None k

-- No queue waits for ever: in the first `end` seconds each queue of a link without a walk loses something within the bound of its phase,
-- `bound node k` for phase k of a node, where it has one.
abbrev pub AreWaitsWithin : Net → (ℕ → ℕ → Result ℕ NoBound) → (ℕ → ℕ → Cumulative) → ℕ → Type 0
AreWaitsWithin net bound past end =
    (l node wait n : ℕ) → l < length net.link_names → (link_at net l).to ≡ Some node → (link_at net l).walk ≡ None
    → bound node (link_at net l).phase ≡ Ok wait → n + wait ≤ end → 0 < queue net past n l
    → Discharges past l n (n + wait)

-- what a link discharges at the least in a second in which it may, where enough waits: less where it gives way to others
abbrev pub least_rate : Link → ℕ
least_rate link = if nat_lt 0 link.yield_sat then link.yield_sat else link.sat

-- what a green of phase k of the least length lets leave after its start-up, from a link of this rate
abbrev pub least_discharge : List Phase → ℕ → ℕ → ℕ
least_discharge plan k sat = ((phase_at plan k).least - (phase_at plan k).loss) * sat

-- in how many seconds from any second on a whole green of phase k begins and ends: those left of a green, the longest red, and
-- a green
abbrev pub whole_green_within : List Phase → (ℕ → ℕ) → ℕ → ℕ
whole_green_within plan intergreen k =
    (phase_at plan k).greatest + longest_red plan intergreen k + (phase_at plan k).greatest

-- In the first `end` seconds each queue of an unmarked phase, of a link without a walk, leaves green by green: after the times of a
-- number of whole greens it has lost as many least discharges, or all of it has left.
abbrev pub AreEmptied : Net → (ℕ → ℕ → ℕ) → (ℕ → ℕ → Cumulative) → ℕ → Type 0
AreEmptied net intergreens past end =
    (l node n greens : ℕ) → l < length net.link_names → (link_at net l).to ≡ Some node → (link_at net l).walk ≡ None
    → let plan = plan_at net node in
    let k = (link_at net l).phase in
    let later = n + greens * whole_green_within plan (intergreens node) k in
    IsTrue (is_unmarked_at plan k) → later ≤ end
    → (past n l).left + min (queue net past n l) (greens * least_discharge plan k (least_rate (link_at net l)))
    ≤ (past later l).left

-- a lawful timeline with intergreens within these that shows the first `end` seconds: its first row begins with second 0, and its last
-- one ends after them
pub record IsWholeLine (plan : List Phase) (intergreen : ℕ → ℕ) (end : ℕ) (rows : List Green) : Type 0 where
  pub lawful : IsLawful plan rows
  pub intergreens : AreIntergreensWithin intergreen rows
  pub begins : (row_at rows 0).from ≡ 0
  pub ends : end < end_of rows

-- each node of a network has a lawful timeline with intergreens within these that shows the first `end` seconds
abbrev pub AreWholeLines : Net → (ℕ → ℕ → ℕ) → ℕ → (ℕ → List Green) → Type 0
AreWholeLines net intergreens end lines =
    (node : ℕ) → node < length net.node_names → IsWholeLine (plan_at net node) (intergreens node) end (lines node)
