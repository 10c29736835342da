-- What arrivals are: rows in order, and an amount for each link and second.
use Rattle.std.specs.Prelude.{◌≡◌, ℕ, ◌+◌, ◌<◌, ◌≤◌, ◌==◌, List, [], ◌∷◌, length, filter, sum_by, All, AllPairs}
use Rattle.net_parts.specs.Limits.{most_of_all}
use Rattle.net_parts.specs.Numbers.{Net}
use Rattle.net_parts.specs.Outline.{known_seconds}
use Rattle.road_net.specs.Totals.{total}
use Rattle.arrivals.specs.declared.rows.ArrivalRow.{ArrivalRow}
use Rattle.arrivals.specs.Rows.{IsSource, AreRows, amount_of, arriving_by}

-- The rows that are kept, in the order of seconds and, within a second, of links.
pub record Amounts : Type 0 where
  pub rows : List ArrivalRow

-- what enters a link in a second: the amount of the row with both, and nothing where there is none
abbrev pub arriving_of : Amounts → ℕ → ℕ → ℕ
arriving_of a second link = arriving_by a.rows second link

-- the second of a row is before that of another, or it is the same and the link is lower
pub record IsBefore (r s : ArrivalRow) : Type 0 where
  pub seconds : r.second ≤ s.second
  pub links : r.second ≡ s.second → r.link < s.link

-- Rows in order, of which no two have one second and link; each brings something, and all together no more than they may.
pub record AreKept (rows : List ArrivalRow) : Type 0 where
  pub order : AllPairs IsBefore rows
  pub least : All (λ r. 1 ≤ r.amount) rows
  pub few : sum_by amount_of rows ≤ most_of_all

-- what rows bring to a link, whatever their seconds
abbrev pub amount_to : List ArrivalRow → ℕ → ℕ
amount_to rows link = sum_by amount_of (filter (λ r. r.link == link) rows)

-- the links of rows rise, and none is below this one
abbrev pub AreRising : ℕ → List ArrivalRow → Type 0
AreRising first [] = Unit {0}
AreRising first (r ∷ rs) = (first ≤ r.link) × AreRising (r.link + 1) rs

-- The arrivals of rows: the rows are lawful, what enters a link in a second is their sum, and there is at most one kept row for
-- each second and link.
pub record AreArrivalsOf (net : Net) (rows : List ArrivalRow) (a : Amounts) : Type 0 where
  pub lawful : AreRows net rows
  pub kept : AreKept a.rows
  pub sums : (link second : ℕ) → arriving_of a second link ≡ arriving_by rows second link

-- the row's link comes from no node, and files may name its second
pub record IsEntry (net : Net) (r : ArrivalRow) : Type 0 where
  pub source : IsSource net r.link
  pub second : r.second < known_seconds net

-- Arrivals at a network: they enter links that come from no node alone, in seconds that files may name, and all together are no
-- more than they may be.
pub record AreArrivals (net : Net) (a : Amounts) : Type 0 where
  pub rows : All (IsEntry net) a.rows
  pub sources : (link second : ℕ) → 0 < arriving_of a second link → IsSource net link
  pub few : (n : ℕ) → total (λ x. total (arriving_of a x) (length net.links)) n ≤ most_of_all
