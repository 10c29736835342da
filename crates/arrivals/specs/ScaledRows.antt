-- Rows that bring scaled arrivals. No public clause names these definitions.
use Rattle.std.specs.Prelude.{◌≡◌, ℕ, ◌+◌, ◌-◌, ◌==◌, ◌&&◌, if◌then◌else◌, List, All, length, sum_by}
use Rattle.net_parts.specs.Numbers.{Net}
use Rattle.road_net.specs.Totals.{total}
use Rattle.arrivals.specs.Amounts.{amount_to}
use Rattle.arrivals.specs.Rows.{IsRow, amount_of, arriving_by}
use Rattle.arrivals.specs.declared.rows.ArrivalRow.{ArrivalRow}
use Rattle.arrivals.specs.Scaling.{total_entered, share_of}

-- new rows are lawful where the old ones are, and bring an amount more to a link in a second
pub record Brings (net : Net) (link second amount : ℕ) (old new : List ArrivalRow) : Type 0 where
  pub lawful : All (IsRow net) old → All (IsRow net) new
  pub each : (l x : ℕ)
      → arriving_by new x l ≡ arriving_by old x l + (if (link == l) && (second == x) then amount else 0)
  pub whole : sum_by amount_of new ≡ sum_by amount_of old + amount

-- what the scaled arrivals have of an amount, after what entered its link before
abbrev pub next_share : ℕ → ℕ → ℕ → ℕ
next_share factor before amount = share_of factor (before + amount) - share_of factor before

-- the rows bring what the scaled arrivals have of these rows of arrivals
pub record HaveCome (net : Net) (factor : ℕ) (come rows : List ArrivalRow) : Type 0 where
  pub lawful : All (IsRow net) rows
  pub shares : (link n : ℕ)
      → total_entered (arriving_by rows) link n ≡ share_of factor (total_entered (arriving_by come) link n)
  pub whole : sum_by amount_of rows ≡ total (λ link. share_of factor (amount_to come link)) (length net.link_names)
