-- The network of a square grid, by names.
use Rattle.std.specs.Prelude.{codes, ℕ, false, List, [], ◌∷◌, ◌++◌, Option, Some, None, map}
use Rattle.std.specs.Fmt.{decimal}
use Rattle.std.specs.List.{flat_map}
use Rattle.std.specs.Option.{option_map}
use Rattle.phase_plan.specs.declared.Phase.{Phase}
use Rattle.net_parts.specs.declared.drafts.Run.{Run}
use Rattle.net_parts.specs.declared.drafts.Draft.{Draft}
use Rattle.net_parts.specs.declared.drafts.DraftNode.{DraftNode}
use Rattle.net_parts.specs.declared.drafts.DraftPhase.{DraftPhase}
use Rattle.net_parts.specs.declared.drafts.DraftLink.{DraftLink}
use Rattle.net_parts.specs.declared.drafts.DraftTurn.{DraftTurn}
use Rattle.net_parts.specs.declared.drafts.DraftConflict.{DraftConflict}
use Rattle.scenario_gen.specs.declared.layout.Direction.{Direction}
use Rattle.scenario_gen.specs.declared.layout.Kind.{Kind}
use Rattle.scenario_gen.specs.declared.layout.Kind.TheVariants.{Leaving, Entering}
use Rattle.scenario_gen.specs.declared.layout.Road.{Road}
use Rattle.scenario_gen.specs.Layout.{nodes, number_of, opposite, clockwise, leaving_by, roads, begin_of, end_of, side_of, phase_roads}

-- the name of a node: n and its number
abbrev pub node_name : ℕ → List ℕ
node_name node = codes "n" ++ decimal node

-- the name of a road: l or s, the number of its node, _ and the number of its direction
abbrev pub letter : Kind → List ℕ
letter Leaving = codes "l"
letter Entering = codes "s"

abbrev pub road_name : Road → List ℕ
road_name r = letter r.kind ++ decimal r.node ++ codes "_" ++ decimal (number_of r.direction)

-- The turns of a road that comes to a node from a side: 700 thousandths go straight on, 150 turn to the left, 150 to the
-- right. Who comes from the north has the east on the left.
abbrev pub turn : ℕ → Direction → ℕ → DraftTurn
turn node direction share = record { exit = road_name (leaving_by node direction); share = share }

abbrev pub turns_from : Option ℕ → Direction → List DraftTurn
turns_from None from = []
turns_from (Some node) from =
    turn node (opposite from) 700 ∷ turn node (clockwise from) 150 ∷ turn node (opposite (clockwise from)) 150 ∷ []

-- a link is 15 seconds long, and 500 thousandths of a vehicle leave it in a second at the most; each counts once; it gives way to none
abbrev pub link : ℕ → Road → DraftLink
link side r =
    record {
      name = road_name r;
      from = option_map node_name (begin_of r);
      to = option_map node_name (end_of side r);
      travel = 15;
      sat = 500;
      weight = 1;
      yields = None;
      walk = None;
      turns = turns_from (end_of side r) (side_of r);
    }

-- the phases of each node are alike, but for the links that they serve
abbrev pub usual : Phase
usual = record { least = 5; greatest = 40; yellow = 3; clear = 2; loss = 2; wait = 300; skip = false }

abbrev pub phase : List Road → DraftPhase
phase served = record { phase = usual; links = map road_name served; also = [] }

abbrev pub node : ℕ → ℕ → DraftNode
node side k =
    record {
      name = node_name k;
      phases = phase (phase_roads side k 0) ∷ phase (phase_roads side k 1) ∷ [];
      free_ring = false;
    }

-- the conflicts of a node: each link of phase 0 with each of phase 1
abbrev pub conflict : Road → Road → DraftConflict
conflict a b = record { a = road_name a; b = road_name b }

abbrev pub conflicts_of : List Road → List Road → List DraftConflict
conflicts_of first second = flat_map (λ a. map (conflict a) second) first

abbrev pub conflicts : ℕ → ℕ → List DraftConflict
conflicts side k = conflicts_of (phase_roads side k 0) (phase_roads side k 1)

-- the run: rounds of 5 seconds that look 60 seconds ahead, with gaps of at most 2, and none of the keys that may be absent
abbrev pub run : ℕ → Run
run rounds =
    record {
      step = 5;
      look = 60;
      gap = 2;
      rounds = rounds;
      split = false;
      age = None;
      hold = None;
      recall = None;
      act_step = None;
      rate = None;
    }

-- the grid with `side` nodes a side, for `rounds` rounds
abbrev pub grid_draft : ℕ → ℕ → Draft
grid_draft side rounds =
    record {
      run = run rounds;
      nodes = map (node side) (nodes side);
      links = map (link side) (roads side);
      conflicts = flat_map (conflicts side) (nodes side);
      great = false;
    }
