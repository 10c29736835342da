-- The records of what the signals showed and the world counted, and the text of records.
use Rattle.std.specs.Prelude.{codes, ℕ, List, [], ◌∷◌, ◌++◌, length, map, slice_index_or}
use Rattle.std.specs.Fmt.{decimal}
use Rattle.std.specs.List.{flat_map, range_with_len}
use Rattle.csv.specs.Writing.{default_writer, row_text}
use Rattle.control_flow.specs.declared.greens.Green.{Green}
use Rattle.net_parts.specs.Numbers.{Net}
use Rattle.net_parts.specs.Outline.{link_name_at, node_name_at}
use Rattle.net_simulator.specs.declared.totals.LinkTotals.{LinkTotals}
use Rattle.net_simulator.specs.declared.totals.Totals.{Totals}
use Rattle.world_records.specs.Told.{told_line}

-- the header
abbrev pub header : List (List ℕ)
header = codes "kind" ∷ codes "round" ∷ codes "node" ∷ codes "x" ∷ codes "y" ∷ codes "z" ∷ codes "w" ∷ []

-- the record of a green of a node
abbrev pub green_record : Net → ℕ → Green → List (List ℕ)
green_record net node green =
    codes "green" ∷ [] ∷ node_name_at net node ∷ decimal green.phase ∷ decimal green.from ∷ decimal green.to ∷ [] ∷ []

-- the records of the greens that are told of a node up to second `end`, out of the timelines of all nodes in their order
abbrev pub green_records : Net → List (List Green) → ℕ → ℕ → List (List (List ℕ))
green_records net lines end node = map (green_record net node) (told_line net lines end node)

-- what stands where a link has no totals
abbrev pub no_totals : LinkTotals
no_totals = record { entered = 0; left = 0; delay = 0 }

-- the record of a link's totals
abbrev pub link_record : Net → ℕ → LinkTotals → List (List ℕ)
link_record net link totals =
    codes "link" ∷ [] ∷ [] ∷ link_name_at net link ∷ decimal totals.entered ∷ decimal totals.left ∷ decimal totals.delay
    ∷ []

-- the record of a link's totals, out of the totals of all links in their order
abbrev pub link_record_of : Net → List LinkTotals → ℕ → List (List ℕ)
link_record_of net links link = link_record net link (slice_index_or links link no_totals)

-- the record of all totals
abbrev pub total_record : Totals → List (List ℕ)
total_record totals =
    codes "total" ∷ [] ∷ [] ∷ decimal totals.entered ∷ decimal totals.left ∷ decimal totals.on ∷ decimal totals.delay
    ∷ []

-- the records of what the world counted: the totals of each link, and all totals
abbrev pub counted_records : Net → List LinkTotals → Totals → List (List (List ℕ))
counted_records net links totals =
    map (link_record_of net links) (range_with_len 0 (length net.link_names)) ++ total_record totals ∷ []

-- the records of what the signals showed and the world counted: the greens that are told up to a second, by node and time; the totals
-- of each link; and all totals
abbrev pub shown_records : Net → List (List Green) → List LinkTotals → Totals → ℕ → List (List (List ℕ))
shown_records net lines links totals end =
    flat_map (green_records net lines end) (range_with_len 0 (length net.node_names))
    ++ counted_records net links totals

-- the text of records, as `csv` writes them
abbrev pub records_text : List (List (List ℕ)) → List ℕ
records_text records = flat_map (row_text default_writer) records

-- the text of the header and of what the world counted
abbrev pub counted_text : Net → List LinkTotals → Totals → List ℕ
counted_text net links totals = records_text (header ∷ counted_records net links totals)
