-- The layout of a square grid: nodes in rows from north to south, each row from west to east, numbered row by row.
use Rattle.std.specs.Prelude.{ℕ, ◌+◌, ◌-◌, ◌*◌, ◌%◌, ◌≤◌, ◌==◌, nat_lt, nat_le, ◌&&◌, Bool, false, if◌then◌else◌, List, [], ◌∷◌, ◌++◌, Option, Some, None, is_none, map, filter}
use Rattle.std.specs.List.{flat_map, range_with_len}
use Rattle.scenario_gen.specs.declared.layout.Direction.{Direction}
use Rattle.scenario_gen.specs.declared.layout.Direction.TheVariants.{North, East, South, West}
use Rattle.scenario_gen.specs.declared.layout.Kind.{Kind}
use Rattle.scenario_gen.specs.declared.layout.Kind.TheVariants.{Leaving, Entering}
use Rattle.scenario_gen.specs.declared.layout.Road.{Road}

-- how many nodes a side may have
pub record IsSide (side : ℕ) : Type 0 where
  pub least : 2 ≤ side
  pub most : side ≤ 8

-- the directions in their order, and the number of each
abbrev pub directions : List Direction
directions = North ∷ East ∷ South ∷ West ∷ []

abbrev pub number_of : Direction → ℕ
number_of North = 0
number_of East = 1
number_of South = 2
number_of West = 3

-- the direction across, and the next one, clockwise
abbrev pub opposite : Direction → Direction
opposite North = South
opposite East = West
opposite South = North
opposite West = East

abbrev pub clockwise : Direction → Direction
clockwise North = East
clockwise East = South
clockwise South = West
clockwise West = North

-- the numbers of the nodes
abbrev pub nodes : ℕ → List ℕ
nodes side = range_with_len 0 (side * side)

-- the node, where there is one
abbrev pub node_if : Bool → ℕ → Option ℕ
node_if inside node = if inside then Some node else None

-- the next node in a direction: a row or a column further; none where the grid ends
abbrev pub neighbour : ℕ → ℕ → Direction → Option ℕ
neighbour side node North = node_if (nat_le side node) (node - side)
neighbour side node East = node_if (nat_lt (node % side + 1) side) (node + 1)
neighbour side node South = node_if (nat_lt (node + side) (side * side)) (node + side)
neighbour side node West = node_if (nat_lt 0 (node % side)) (node - 1)

-- the roads that leave a node, one in each direction
abbrev pub leaving_by : ℕ → Direction → Road
leaving_by node direction = record { kind = Leaving; node = node; direction = direction }

abbrev pub exit_roads : ℕ → List Road
exit_roads node = map (leaving_by node) directions

-- the roads that come to a node from outside, one from each side on which it has no neighbour
abbrev pub entering_by : ℕ → Direction → Road
entering_by node direction = record { kind = Entering; node = node; direction = direction }

abbrev pub entry_roads : ℕ → ℕ → List Road
entry_roads side node = map (entering_by node) (filter (λ d. is_none (neighbour side node d)) directions)

-- all roads: those that leave the nodes, node by node, and then those that come from outside, node by node
abbrev pub roads : ℕ → List Road
roads side = flat_map exit_roads (nodes side) ++ flat_map (entry_roads side) (nodes side)

-- the node that a road comes from, and the one that it ends at
abbrev pub begin_by : Kind → ℕ → Option ℕ
begin_by Leaving node = Some node
begin_by Entering node = None

abbrev pub end_by : ℕ → Kind → ℕ → Direction → Option ℕ
end_by side Leaving node direction = neighbour side node direction
end_by side Entering node direction = Some node

-- the side from which a road comes to the node where it ends
abbrev pub side_by : Kind → Direction → Direction
side_by Leaving direction = opposite direction
side_by Entering direction = direction

abbrev pub begin_of : Road → Option ℕ
begin_of r = begin_by r.kind r.node

abbrev pub end_of : ℕ → Road → Option ℕ
end_of side r = end_by side r.kind r.node r.direction

abbrev pub side_of : Road → Direction
side_of r = side_by r.kind r.direction

-- the phase that serves a side: phase 0 the roads from north and south, phase 1 those from east and west
abbrev pub phase_of : Direction → ℕ
phase_of North = 0
phase_of East = 1
phase_of South = 0
phase_of West = 1

-- whether this is the node
abbrev pub is_node : ℕ → Option ℕ → Bool
is_node node None = false
is_node node (Some n) = n == node

-- whether a phase of a node serves a road: the road ends at the node, and comes to it from a side of the phase
abbrev pub serves : ℕ → ℕ → ℕ → Road → Bool
serves side node phase r = is_node node (end_of side r) && (phase_of (side_of r) == phase)

-- the roads that a phase of a node serves, in the order of all roads
abbrev pub phase_roads : ℕ → ℕ → ℕ → List Road
phase_roads side node phase = filter (serves side node phase) (roads side)
