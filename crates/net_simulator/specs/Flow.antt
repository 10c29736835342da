-- What enters the links of a network and leaves them, second by second.
use Rattle.std.specs.Prelude.{ℕ, zero, suc, ◌+◌, ◌-◌, min, nat_lt, Bool, not, ◌&&◌, if◌then◌else◌, List, [], ◌∷◌, ◌++◌, Option, Some, None, map, length, slice_index_or}
use Rattle.std.specs.List.{list_any, range_with_len}
use Rattle.net_parts.specs.Numbers.{Net}
use Rattle.control_flow.specs.declared.greens.Sign.{Sign}
use Rattle.net_parts.specs.Outline.{link_at, plan_at, turns_at, yields_at}
use Rattle.road_net.specs.Joins.{split_of}
use Rattle.road_net.specs.Totals.{total}
use Rattle.net_simulator.specs.Discharging.{begun}
use Rattle.net_simulator.specs.LinkGreens.{is_green, loss_of}

-- all that entered a link and all that left it
pub record Cumulative : Type 0 where
  pub entered : ℕ
  pub left : ℕ

-- nothing passed
abbrev pub nothing : Cumulative
nothing = record { entered = 0; left = 0 }

-- what passed a link in the first n seconds, from a row of all links for each n
abbrev pub passed_in : List (List Cumulative) → ℕ → ℕ → Cumulative
passed_in history n l = slice_index_or (slice_index_or history n []) l nothing

-- Below, `past n l` is what passed link l in the first n seconds.

-- all that reached the end of a link in the first n seconds
abbrev pub total_reached : Net → (ℕ → ℕ → Cumulative) → ℕ → ℕ → ℕ
total_reached net past n l = (past (n - (link_at net l).travel) l).entered

-- the queue after the first n seconds
abbrev pub queue : Net → (ℕ → ℕ → Cumulative) → ℕ → ℕ → ℕ
queue net past n l = total_reached net past n l - (past n l).left

-- what waits at the end of the link in second x
abbrev pub waiting : Net → (ℕ → ℕ → Cumulative) → ℕ → ℕ → ℕ
waiting net past x l = total_reached net past (x + 1) l - (past x l).left

-- whether second x is lost to the start-up in a green that began in second `from`: it is one of the first `loss` seconds of the
-- green, and the queue as the green began, `before`, was not empty
abbrev pub is_lost : ℕ → ℕ → ℕ → ℕ → Bool
is_lost loss from x before = nat_lt x (from + loss) && nat_lt 0 before

-- whether a link, which ends at this node, may discharge in second x: it is green, and the second is not lost; `shown x node` is the sign
-- of a node in second x
abbrev pub may_go : Net → (ℕ → ℕ → Sign) → (ℕ → ℕ → Cumulative) → ℕ → ℕ → ℕ → Bool
may_go net shown past x l node =
    let from = begun (is_green net shown l) x in
    is_green net shown l x && not (is_lost (loss_of (plan_at net node) (shown x node)) from x (queue net past from l))

-- whether a link is busy in second x: it is green, also where the second is lost, and something waits at its end before anything leaves
abbrev pub is_busy : Net → (ℕ → ℕ → Sign) → (ℕ → ℕ → Cumulative) → ℕ → ℕ → Bool
is_busy net shown past x l = is_green net shown l x && nat_lt 0 (waiting net past x l)

-- what a link discharges at the most in second x, where it may: `yield_sat` while a link to which it gives way is busy, else `sat`
abbrev pub rate : Net → (ℕ → ℕ → Sign) → (ℕ → ℕ → Cumulative) → ℕ → ℕ → ℕ
rate net shown past x l =
    if list_any (is_busy net shown past x) (yields_at net l) then (link_at net l).yield_sat else (link_at net l).sat

-- what a link discharges in second x: all that waits, where it ends at no node
abbrev pub discharge_to : Net → (ℕ → ℕ → Sign) → (ℕ → ℕ → Cumulative) → ℕ → ℕ → Option ℕ → ℕ
discharge_to net shown past x l None = waiting net past x l
discharge_to net shown past x l (Some node) =
    if may_go net shown past x l node then min (rate net shown past x l) (waiting net past x l) else 0

-- what a link discharges in second x, by the node where it ends
abbrev pub discharge : Net → (ℕ → ℕ → Sign) → (ℕ → ℕ → Cumulative) → ℕ → ℕ → ℕ
discharge net shown past x l = discharge_to net shown past x l (link_at net l).to

-- what enters a link in second x: what arrives, and its part of what each link discharges
abbrev pub entered_in : Net → (ℕ → ℕ) → (ℕ → ℕ → Sign) → (ℕ → ℕ → Cumulative) → ℕ → ℕ → ℕ
entered_in net arriving shown past x l =
    arriving l + total (λ k. split_of (turns_at net k) (discharge net shown past x k) l) (length net.link_names)

-- what passed a link in the first x + 1 seconds
abbrev pub passing : Net → (ℕ → ℕ) → (ℕ → ℕ → Sign) → (ℕ → ℕ → Cumulative) → ℕ → ℕ → Cumulative
passing net arriving shown past x l =
    record {
      entered = (past x l).entered + entered_in net arriving shown past x l;
      left = (past x l).left + discharge net shown past x l;
    }

-- The rows of what passed the links in the first 0, 1, .., x seconds, and one more, for the first x + 1 seconds. `arriving l` is
-- what enters link l from outside in second x, and `shown y node` the sign of a node in second y.
abbrev pub longer : Net → (ℕ → ℕ) → (ℕ → ℕ → Sign) → ℕ → List (List Cumulative) → List (List Cumulative)
longer net arriving shown x history =
    history ++ map (passing net arriving shown (passed_in history) x) (range_with_len 0 (length net.link_names)) ∷ []

-- What passed the links in the first 0, 1, .., n seconds: a row for each of these numbers, with a place for each link; the row for
-- 0 seconds is empty. `arriving x l` is what enters link l from outside in second x, in thousandths of a vehicle; `shown x node` is
-- the sign of a node in second x.
unfoldable pub history : Net → (ℕ → ℕ → ℕ) → (ℕ → ℕ → Sign) → ℕ → List (List Cumulative)
history net arriving shown zero = [] ∷ []
history net arriving shown (suc x) = longer net (arriving x) shown x (history net arriving shown x)

-- what passed each link in the first n seconds, for n up to `now`
abbrev pub cumulative_under : Net → (ℕ → ℕ → ℕ) → (ℕ → ℕ → Sign) → ℕ → ℕ → ℕ → Cumulative
cumulative_under net arriving shown now = passed_in (history net arriving shown now)
