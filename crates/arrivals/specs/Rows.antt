-- Rows of arrivals: which are lawful, and what they bring.
use Rattle.std.specs.Prelude.{◌≡◌, ℕ, ◌≤◌, ◌<◌, ◌==◌, ◌&&◌, Bool, List, None, length, filter, sum_by, All}
use Rattle.net_parts.specs.Limits.{most_of_all}
use Rattle.net_parts.specs.Numbers.{Net}
use Rattle.net_parts.specs.Outline.{link_at, known_seconds}
use Rattle.arrivals.specs.declared.rows.ArrivalRow.{ArrivalRow}

-- the most that one row may bring
abbrev pub most_of_row : ℕ
most_of_row = 1000000

-- a link that is entered from outside: it comes from no node
pub record IsSource (net : Net) (link : ℕ) : Type 0 where
  pub exists : link < length net.link_names
  pub outside : (link_at net link).from ≡ None

-- the second of a row is one that files may name, and its amount is within its bounds
pub record HasBounds (net : Net) (r : ArrivalRow) : Type 0 where
  pub second : r.second < known_seconds net
  pub least : 1 ≤ r.amount
  pub most : r.amount ≤ most_of_row

-- a lawful row
pub record IsRow (net : Net) (r : ArrivalRow) : Type 0 where
  pub source : IsSource net r.link
  pub bounds : HasBounds net r

-- what a row brings
abbrev pub amount_of : ArrivalRow → ℕ
amount_of r = r.amount

-- rows of arrivals at a network: each is lawful, and all together bring no more than they may
pub record AreRows (net : Net) (rows : List ArrivalRow) : Type 0 where
  pub each : All (IsRow net) rows
  pub few : sum_by amount_of rows ≤ most_of_all

-- whether a row has this link and second
abbrev pub is_at : ℕ → ℕ → ArrivalRow → Bool
is_at link second r = (r.link == link) && (r.second == second)

-- what enters a link in a second: the sum of the rows with both
abbrev pub arriving_by : List ArrivalRow → ℕ → ℕ → ℕ
arriving_by rows second link = sum_by amount_of (filter (is_at link second) rows)
