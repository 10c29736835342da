-- The records by which a sheet is told. No public clause names these definitions.
use Rattle.std.specs.Prelude.{◌≡◌, ℕ, ◌<◌, ◌^◌, List, [], Some, All, length, slice_index_or}
use Rattle.net_parts.specs.Numbers.{Net}
use Rattle.net_simulator.specs.Counts.{counts_at}
use Rattle.net_simulator.specs.declared.totals.Totals.{Totals}
use Rattle.world_records.specs.Records.{shown_records}
use Rattle.world_records.specs.Told.{AreToldCounts, IsToldGreen}
use Rattle.audit.specs.declared.sheet.Sheet.{Sheet}
use Rattle.audit.specs.SheetRecords.{Ignored, parse}

-- a record that is passed over
abbrev pub IsPassedOver : List (List ℕ) → Type 0
IsPassedOver fields = parse fields ≡ Some Ignored

-- the records of the greens that are told up to a second, by node and time, of the totals of each link, and of all totals
abbrev pub sheet_records : Net → ℕ → Sheet → List (List (List ℕ))
sheet_records net end s = shown_records net s.lines s.links s.totals end

-- totals of the network that a sheet can have: numbers of 64 bits
pub record AreToldSums (totals : Totals) : Type 0 where
  pub entered : totals.entered < 2 ^ 64
  pub left : totals.left < 2 ^ 64
  pub on : totals.on < 2 ^ 64
  pub delay : totals.delay < 2 ^ 64

-- A sheet that can be told: it has a line for each node and totals of each link, and its numbers can be.
pub record CanBeTold (net : Net) (s : Sheet) : Type 0 where
  pub lines : length s.lines ≡ length net.node_names
  pub links : length s.links ≡ length net.link_names
  pub greens : (node : ℕ) → node < length net.node_names → All IsToldGreen (slice_index_or s.lines node [])
  pub counts : (link : ℕ) → link < length net.link_names → AreToldCounts (counts_at s.links link)
  pub totals : AreToldSums s.totals
