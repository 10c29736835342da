-- What moves in a world in which a full link holds back those who want to enter it.
use Rattle.std.specs.Prelude.{ℕ, zero, suc, ◌+◌, ◌-◌, ◌≤◌, ◌<◌, min, if◌then◌else◌, List, [], ◌∷◌, ◌++◌, Option, Some, None, length, slice_index}
use Rattle.net_parts.specs.Numbers.{Net}
use Rattle.net_parts.specs.Outline.{link_at, turns_at}
use Rattle.road_net.specs.Joins.{split_of}
use Rattle.road_net.specs.Totals.{total}
use Rattle.net_simulator.specs.Flow as flow
use Rattle.net_simulator.specs.Flow.{Cumulative, passed_in, waiting, may_go}
use Rattle.net_simulator.specs.Moves.{Moves, history_by}
use Rattle.net_simulator.specs.Sums.{outward}
use Rattle.spillback_world.specs.Filling.{fitting}
use Rattle.control_flow.specs.declared.greens.Sign.{Sign}

-- ---- One second. Below, `store l` is how much link l can hold, and `goes` are the discharges of the first links, in their order.

-- what a link that ends at a node discharges into others; what leaves the network has left before any link does
abbrev pub inward : Option ℕ → ℕ → ℕ
inward None amount = 0
inward (Some node) amount = amount

-- How a second begins, once what leaves the network has left: what waits at the end of each link, how much a link may discharge at the
-- most at the node where it ends, and what is on each link.
pub record Opening : Type 0 where
  pub waits : ℕ → ℕ
  pub rate : ℕ → ℕ → ℕ
  pub holds : ℕ → ℕ

-- what is on link l once the first links have discharged
abbrev pub held_by : Net → Opening → List ℕ → ℕ → ℕ
held_by net o goes l =
    o.holds l + total (λ k. split_of (turns_at net k) (slice_index goes k) l) (length goes)
    - inward (link_at net l).to (slice_index goes l)

-- what link l discharges, once the links before it have, by the node where it ends: all that waits, or the greatest amount up to
-- what it would discharge into links without bounds for whose parts there is room
abbrev pub next_goes : Net → (ℕ → ℕ) → Opening → List ℕ → ℕ → Option ℕ → ℕ
next_goes net store o goes l None = o.waits l
next_goes net store o goes l (Some node) =
    fitting (turns_at net l) (λ e. store e - held_by net o goes e) (min (o.rate l node) (o.waits l))

-- the discharges of the first n links, one after another
unfoldable pub all_goes : Net → (ℕ → ℕ) → Opening → ℕ → List ℕ
all_goes net store o zero = []
all_goes net store o (suc l) =
    let goes = all_goes net store o l in
    goes ++ next_goes net store o goes l (link_at net l).to ∷ []

-- ---- What moves, by what passed each link before.

-- what leaves the network at the end of a link in second x: all that waits there
abbrev pub first_out : Net → (ℕ → ℕ → Cumulative) → ℕ → ℕ → ℕ
first_out net past x l = outward (link_at net l).to (waiting net past x l)

-- how second x begins
abbrev pub opening : Net → (ℕ → ℕ → Sign) → (ℕ → ℕ → Cumulative) → ℕ → Opening
opening net shown past x = record {
  waits = waiting net past x;
  rate = λ l node. if may_go net shown past x l node then flow.rate net shown past x l else 0;
  holds = λ l. (past x l).entered - (past x l).left - first_out net past x l;
}

-- what is on link l in second x, once the first links have discharged
abbrev pub held_after : Net → (ℕ → ℕ → Sign) → (ℕ → ℕ → Cumulative) → ℕ → List ℕ → ℕ → ℕ
held_after net shown past x goes l = held_by net (opening net shown past x) goes l

-- the discharges of the first n links in second x
abbrev pub goes_of : Net → (ℕ → ℕ) → (ℕ → ℕ → Sign) → (ℕ → ℕ → Cumulative) → ℕ → ℕ → List ℕ
goes_of net store shown past x n = all_goes net store (opening net shown past x) n

-- what waits outside of a link after n seconds: what arrived there and has not entered. Nothing arrives at a link that comes from a
-- node.
abbrev pub outside : (ℕ → ℕ → ℕ) → (ℕ → ℕ → Cumulative) → ℕ → ℕ → ℕ
outside arriving past n l = total (λ x. arriving x l) n - (past n l).entered

-- what of that, and of what arrives in second x, enters the link then: as much as there is room for, once all links have discharged
abbrev pub let_in : Net → (ℕ → ℕ → ℕ) → (ℕ → ℕ) → (ℕ → ℕ → Sign) → (ℕ → ℕ → Cumulative) → ℕ → List ℕ → ℕ → ℕ
let_in net arriving store shown past x goes l =
    min (outside arriving past x l + arriving x l) (store l - held_after net shown past x goes l)

-- what moves in second x
abbrev pub stored_moves : Net → (ℕ → ℕ → ℕ) → (ℕ → ℕ) → (ℕ → ℕ → Sign) → List (List Cumulative) → ℕ → Moves
stored_moves net arriving store shown before x =
    let goes = goes_of net store shown (passed_in before) x (length net.link_names) in
    record { goes = slice_index goes; comes = let_in net arriving store shown (passed_in before) x goes }

-- what passed each link in the first n seconds, for n up to `now`
abbrev pub cumulative_in : Net → (ℕ → ℕ → ℕ) → (ℕ → ℕ) → (ℕ → ℕ → Sign) → ℕ → ℕ → ℕ → Cumulative
cumulative_in net arriving store shown now = passed_in (history_by net (stored_moves net arriving store shown) now)

-- no link ever holds more than its storage
abbrev pub AreWithin : Net → (ℕ → ℕ) → (ℕ → ℕ → Cumulative) → ℕ → Type 0
AreWithin net store past n =
    (k l : ℕ) → k ≤ n → l < length net.link_names → (past k l).entered ≤ (past k l).left + store l
