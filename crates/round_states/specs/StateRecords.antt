-- What a record of a state tells.
use Rattle.std.specs.Prelude.{codes, nat_lt, ℕ, if◌then◌else◌, is_some, List, [], ◌∷◌, map, Option, Some, None}
use Rattle.std.specs.Fmt.{decimal}
use Rattle.std.specs.Str.{bytes_eq}
use Rattle.foundation.specs.Options.{◌>>=◌}
use Rattle.board_model.specs.declared.forecasts.Row.{Row}
use Rattle.control_flow.specs.declared.greens.Green.{Green}
use Rattle.net_parts.specs.Numbers.{Net, number_of}
use Rattle.net_parts.specs.Outline.{link_at, link_name_at, node_name_at}
use Rattle.record_text.specs.Decimals.{number_of_digits}
use Rattle.round_states.specs.declared.entries.Entry.{Entry}
use Rattle.round_states.specs.declared.entries.StateRecord.{StateRecord}
use Rattle.round_states.specs.declared.entries.StateRecord.TheVariants as said
use Rattle.round_states.specs.declared.entries.Queue.{Queue}
use Rattle.round_states.specs.declared.states.LinkBoard.{LinkBoard}

-- the header
abbrev pub header : List (List ℕ)
header = codes "kind" ∷ codes "name" ∷ codes "x" ∷ codes "y" ∷ codes "z" ∷ []

-- the number of digits that is at most 255
unfoldable pub byte_of : List ℕ → Option ℕ
byte_of field = do
  n ← number_of_digits field
  if nat_lt n 256 then Some n else None

-- a green of a phase, a begin and an end
unfoldable pub green_of : List ℕ → List ℕ → List ℕ → Option Green
green_of x y z = do
  phase ← byte_of x
  from ← number_of_digits y
  to ← number_of_digits z
  Some (record { phase = phase; from = from; to = to })

-- a queue of an amount and of how long it has stood
unfoldable pub queue_of : List ℕ → List ℕ → Option Queue
queue_of x y = do
  amount ← number_of_digits x
  stood ← number_of_digits y
  Some (record { amount = amount; stood = stood })

-- a row of a second and an amount
unfoldable pub row_of : List ℕ → List ℕ → Option Row
row_of x y = do
  second ← number_of_digits x
  amount ← number_of_digits y
  Some (record { second = second; amount = amount })

-- what the fields of a record say that are read, by its kind; one of what was planned says nothing
unfoldable pub parse_fields : List ℕ → List ℕ → List ℕ → List ℕ → Option StateRecord
parse_fields kind x y z =
    if bytes_eq kind (codes "now") then (number_of_digits x >>= λ second. Some (said.Now second))
    else (if bytes_eq kind (codes "green") then (green_of x y z >>= λ green. Some (said.Green green))
    else (if bytes_eq kind (codes "queue") then (queue_of x y >>= λ queue. Some (said.Queue queue))
    else (if bytes_eq kind (codes "coming") then (row_of x y >>= λ row. Some (said.Coming row))
    else (if bytes_eq kind (codes "version") then (number_of_digits x >>= λ version. Some (said.Version version))
    else (if bytes_eq kind (codes "row") then (row_of x y >>= λ row. Some (said.Row row))
    else (if bytes_eq kind (codes "plan") then Some said.Plan else None))))))

-- a record has five fields
abbrev pub parse : List (List ℕ) → Option StateRecord
parse (kind ∷ name ∷ x ∷ y ∷ z ∷ []) = parse_fields kind x y z
parse _ = None

-- the name in a record
abbrev pub name_of : List (List ℕ) → List ℕ
name_of (kind ∷ name ∷ fields) = name
name_of _ = []

-- the link with a name, where it ends at a node, which senses it
unfoldable pub entry_link_of : Net → List ℕ → Option ℕ
entry_link_of net name = do
  link ← number_of net.link_names name
  if is_some (link_at net link).to then Some link else None

-- the link with a name, where it comes from a node and ends at one, which it tells
unfoldable pub told_link_of : Net → List ℕ → Option ℕ
told_link_of net name = do
  link ← entry_link_of net name
  if is_some (link_at net link).from then Some link else None

-- the number of the node or link of which a record with this name says this
abbrev pub place_of : Net → StateRecord → List ℕ → Option ℕ
place_of net (said.Now second) name = Some 0
place_of net (said.Green green) name = number_of net.node_names name
place_of net (said.Queue queue) name = entry_link_of net name
place_of net (said.Coming row) name = entry_link_of net name
place_of net (said.Version version) name = told_link_of net name
place_of net (said.Row row) name = told_link_of net name
place_of net said.Plan name = Some 0

-- what a record tells, and of which node or link
unfoldable pub parse_in : Net → List (List ℕ) → Option Entry
parse_in net fields = do
  content ← parse fields
  place ← place_of net content (name_of fields)
  Some (record { place = place; content = content })

-- the record of a row of a node's timeline
abbrev pub green_record : Net → ℕ → Green → List (List ℕ)
green_record net node green =
    codes "green" ∷ node_name_at net node ∷ decimal green.phase ∷ decimal green.from ∷ decimal green.to ∷ []

-- the record of a link's version, and that of a row of its forecast
abbrev pub version_record : Net → ℕ → ℕ → List (List ℕ)
version_record net link version = codes "version" ∷ link_name_at net link ∷ decimal version ∷ [] ∷ [] ∷ []

abbrev pub row_record : Net → ℕ → Row → List (List ℕ)
row_record net link row = codes "row" ∷ link_name_at net link ∷ decimal row.second ∷ decimal row.amount ∷ [] ∷ []

-- the records of a link's board
abbrev pub board_records : Net → ℕ → LinkBoard → List (List (List ℕ))
board_records net link board = version_record net link board.version ∷ map (row_record net link) board.forecast
