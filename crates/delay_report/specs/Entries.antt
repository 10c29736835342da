-- What the records of a history tell.
use Rattle.std.specs.Prelude.{codes, ℕ, ◌||◌, Bool, if◌then◌else◌, List, [], ◌∷◌, Option, Some, None}
use Rattle.std.specs.Str.{bytes_eq}
use Rattle.foundation.specs.Options.{◌>>=◌}
use Rattle.net_parts.specs.Numbers.{Net, number_of}

-- the kind of a step, and whether a field is one of the four kinds that are passed over
abbrev pub is_step : List ℕ → Bool
is_step kind = bytes_eq kind (codes "step")

abbrev pub is_passed_over : List ℕ → Bool
is_passed_over kind =
    bytes_eq kind (codes "plan") ||
    (bytes_eq kind (codes "green") || (bytes_eq kind (codes "link") || bytes_eq kind (codes "total")))

-- The name in a record of one of the five kinds: that of the node, where it is a step; none in the others, which are passed
-- over unread.
abbrev pub node_field : List ℕ → List ℕ → Option (Option (List ℕ))
node_field kind node = if is_step kind then Some (Some node) else (if is_passed_over kind then Some None else None)

-- a record has seven fields
abbrev pub node_field_of : List (List ℕ) → Option (Option (List ℕ))
node_field_of (kind ∷ round ∷ node ∷ x ∷ y ∷ z ∷ w ∷ []) = node_field kind node
node_field_of _ = None

-- the steps of a record: one of the node with this name, where the network has it; or none
abbrev pub steps_by : Net → Option (List ℕ) → Option (List ℕ)
steps_by net None = Some []
steps_by net (Some name) = do
  node ← number_of net.node_names name
  Some (node ∷ [])

unfoldable pub steps_of : Net → List (List ℕ) → Option (List ℕ)
steps_of net fields = do
  name ← node_field_of fields
  steps_by net name
