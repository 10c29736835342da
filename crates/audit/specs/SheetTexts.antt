-- Which sheet a text stands for.
use Rattle.std.specs.Prelude.{◌≡◌, ℕ, ◌≤◌, if◌then◌else◌, List, [], ◌∷◌, Option, Some, None, All, Contains, filter_map, length, map, take}
use Rattle.std.specs.Str.{bytes_eq}
use Rattle.control_flow.specs.declared.greens.Green.{Green}
use Rattle.net_parts.specs.Numbers.{Net}
use Rattle.net_simulator.specs.declared.totals.LinkTotals.{LinkTotals}
use Rattle.net_simulator.specs.declared.totals.Totals.{Totals}
use Rattle.record_text.specs.Forms.{Form, IsTextOf}
use Rattle.world_records.specs.Records.{header}
use Rattle.audit.specs.declared.sheet.Sheet.{Sheet}
use Rattle.audit.specs.SheetRecords.{Counts, Shows, Sums, SheetRecord, parse}

-- the green that is told of the node of this name; none where something else is told
abbrev pub green_of : List ℕ → SheetRecord → Option Green
green_of node (Shows name green) = if bytes_eq name node then Some green else None
green_of node _ = None

-- the name of the link of which totals are told; none where something else is told
abbrev pub link_of : SheetRecord → Option (List ℕ)
link_of (Counts link totals) = Some link
link_of _ = None

-- the totals that are told of a link; none where something else is told
abbrev pub counts_of : SheetRecord → Option LinkTotals
counts_of (Counts link totals) = Some totals
counts_of _ = None

-- the totals that are told of the whole network; none where something else is told
abbrev pub sums_of : SheetRecord → Option Totals
sums_of (Sums totals) = Some totals
sums_of _ = None

-- a green that is told is one of a node of the network
abbrev pub NamesNode : Net → SheetRecord → Type 0
NamesNode net (Shows name green) = Contains net.node_names name
NamesNode net _ = Unit {0}

-- The sheet of what is told: greens are those of nodes, and each node's are its line; totals of each link are told, in the order of
-- the links; and totals of the whole network once.
pub record IsSheetOf (net : Net) (parsed : List SheetRecord) (sheet : Sheet) : Type 0 where
  pub nodes : All (NamesNode net) parsed
  pub shown : sheet.lines ≡ map (λ node. filter_map (green_of node) parsed) net.node_names
  pub names : filter_map link_of parsed ≡ net.link_names
  pub counted : sheet.links ≡ filter_map counts_of parsed
  pub once : filter_map sums_of parsed ≡ sheet.totals ∷ []

-- of how many links totals are told
abbrev pub links_counted : List SheetRecord → ℕ
links_counted parsed = length (filter_map link_of parsed)

-- What was told so far is in order: greens are those of nodes, links are the first ones in their order, and totals of the whole
-- network are told once at most.
pub record IsInOrder (net : Net) (parsed : List SheetRecord) : Type 0 where
  pub nodes : All (NamesNode net) parsed
  pub names : filter_map link_of parsed ≡ take (links_counted parsed) net.link_names
  pub once : length (filter_map sums_of parsed) ≤ 1

-- the form of the text: records after the first tell in order what a sheet has
abbrev pub form : Net → Form SheetRecord Sheet
form net = record { header = header; read = parse; lawful = IsInOrder net; is_of = IsSheetOf net }

-- the sheet of a text
abbrev pub IsSheetText : Net → List ℕ → Sheet → Type 0
IsSheetText net bytes sheet = IsTextOf (form net) bytes sheet

-- a line for each node, and totals of each link
pub record HasShape (net : Net) (sheet : Sheet) : Type 0 where
  pub lines : length sheet.lines ≡ length net.node_names
  pub links : length sheet.links ≡ length net.link_names
