-- What holds of every world whose links hold so much and no more.
use Rattle.std.specs.Prelude.{◌≡◌, ℕ, ◌+◌, All, List}
use Rattle.arrivals.specs.Amounts.{Amounts, arriving_of}
use Rattle.net_parts.specs.Numbers.{Net}
use Rattle.net_simulator.specs.Flow.{cumulative_under}
use Rattle.net_simulator.specs.Sums.{total_arrived, totals}
use Rattle.net_simulator.specs.declared.totals.Totals.{Totals}
use Rattle.spillback_world.specs.declared.totals.SpillTotals.{SpillTotals}
use Rattle.spillback_world.specs.StoredTotals.{stored_totals}
use Rattle.spillback_world.specs.Storage.{AreWithin, cumulative_in}
use Rattle.spillback_world.specs.StoreRows.{most_of_link}
use Rattle.control_flow.specs.declared.greens.Sign.{Sign}

-- what is counted in the first n seconds
abbrev pub spilled_in : Net → Amounts → (ℕ → ℕ) → (ℕ → ℕ → Sign) → ℕ → SpillTotals
spilled_in net arrivals store shown n =
    stored_totals net (arriving_of arrivals) (cumulative_in net (arriving_of arrivals) store shown n) n

-- Nothing is lost and no link holds more than its storage: what entered has left or is on the links, and what arrived has entered or
-- waits outside.
pub record IsKept (net : Net) (arrivals : Amounts) (store : ℕ → ℕ) (shown : ℕ → ℕ → Sign) (n : ℕ) : Type 0 where
  pub within : AreWithin net store (cumulative_in net (arriving_of arrivals) store shown n) n
  pub whole : (spilled_in net arrivals store shown n).entered
      ≡ (spilled_in net arrivals store shown n).left + (spilled_in net arrivals store shown n).on
  pub all : total_arrived net (arriving_of arrivals) n
      ≡ (spilled_in net arrivals store shown n).entered + (spilled_in net arrivals store shown n).outside

-- what is counted of a world without bounds, outside of which nothing waits
abbrev pub spill_totals_of : Totals → SpillTotals
spill_totals_of t = record { entered = t.entered; left = t.left; on = t.on; outside = 0; delay = t.delay }

-- the same of the first n seconds
abbrev pub unbounded_in : Net → Amounts → (ℕ → ℕ → Sign) → ℕ → SpillTotals
unbounded_in net arrivals shown n =
    spill_totals_of (totals net (arriving_of arrivals) (cumulative_under net (arriving_of arrivals) shown n) n)

-- each link can hold all that may ever arrive
abbrev pub AreAmple : List ℕ → Type 0
AreAmple store = All (λ storage. storage ≡ most_of_link) store

-- Where each link can hold all that may ever arrive, what passes the links is what passes those without bounds, nothing waits
-- outside, and the totals are those of the world without bounds.
pub record IsAmple (net : Net) (arrivals : Amounts) (shown : ℕ → ℕ → Sign) (n : ℕ) : Type 0 where
  pub past : cumulative_in net (arriving_of arrivals) (λ l. most_of_link) shown n
      ≡ cumulative_under net (arriving_of arrivals) shown n
  pub none : (spilled_in net arrivals (λ l. most_of_link) shown n).outside ≡ 0
  pub totals : spilled_in net arrivals (λ l. most_of_link) shown n ≡ unbounded_in net arrivals shown n
