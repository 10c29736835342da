-- The grid of a number.
use Rattle.std.specs.Prelude.{ℕ, ◌≤◌, false}
use Rattle.net_parts.specs.Limits.{limits}
use Rattle.net_parts.specs.Numbers.{Net}
use Rattle.road_net.specs.Network.{IsNetworkOf}
use Rattle.arrivals.specs.Amounts.{Amounts, AreArrivalsOf}
use Rattle.arrivals.specs.Rows.{AreRows}
use Rattle.scenario_gen.specs.Arrivals.{rows}
use Rattle.scenario_gen.specs.Drafts.{grid_draft}

-- how many rounds there may be
pub record AreRounds (rounds : ℕ) : Type 0 where
  pub least : 1 ≤ rounds
  pub most : rounds ≤ (limits false).rounds

-- The grid of a number, with `side` nodes a side and for `rounds` rounds: the network is that of its draft, and the arrivals
-- are those of the rows that the number's words decide.
pub record IsGrid (number side rounds : ℕ) (net : Net) (a : Amounts) : Type 0 where
  pub network : IsNetworkOf (grid_draft side rounds) net
  pub arrivals : AreArrivalsOf net (rows number rounds net) a

-- There is such a grid: its draft stands for a network, and its rows are lawful there.
pub record HasGrid (number side rounds : ℕ) : Type 0 where
  pub net : Net
  pub network : IsNetworkOf (grid_draft side rounds) net
  pub rows_lawful : AreRows net (rows number rounds net)
