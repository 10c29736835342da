-- The text of how long queues can wait, and of how long phases are red under a fixed plan.
use Rattle.std.specs.Prelude.{ℕ, List, [], ◌∷◌, Option, Some, None, Result, Ok, Err, codes, length, map}
use Rattle.std.specs.Fmt.{decimal}
use Rattle.std.specs.List.{flat_map, range_with_len}
use Rattle.fixed_plans.specs.FixedBounds.{fixed_bounds}
use Rattle.fixed_plans.specs.Reds.{fixed_red}
use Rattle.fixed_plans.specs.declared.rows.FixedRow.{FixedRow}
use Rattle.net_parts.specs.Numbers.{Net}
use Rattle.net_parts.specs.Outline.{node_name_at, plan_at}
use Rattle.waits.specs.Bounds.{phase_bounds}
use Rattle.waits.specs.declared.bounds.NoBound.{NoBound}
use Rattle.waits.specs.declared.bounds.NoBound.TheVariants.{Marked, ShortGreen}
use Rattle.waits.specs.declared.bounds.PhaseBounds.{PhaseBounds}
use Rattle.world_records.specs.Records.{records_text}

-- a field: within how many seconds each queue of a phase, of a link without a walk, loses something, or why there is no such bound
abbrev pub bound_field : Result ℕ NoBound → List ℕ
bound_field (Ok seconds) = decimal seconds
bound_field (Err Marked) = codes "marked"
bound_field (Err ShortGreen) = codes "short"

-- the record of the bounds of a phase: the node by its name, the phase, and the bound where the nodes plan and that under actuated control
abbrev pub bound_record : Net → PhaseBounds → List (List ℕ)
bound_record net bounds =
    node_name_at net bounds.node ∷ decimal bounds.phase ∷ bound_field bounds.planned ∷ bound_field bounds.actuated ∷ []

-- the records of the bounds of a node's phases
abbrev pub bound_records : Net → ℕ → List (List (List ℕ))
bound_records net node =
    map (λ k. bound_record net (phase_bounds net node k)) (range_with_len 0 (length (plan_at net node)))

-- the header of the text of bounds
abbrev pub header : List (List ℕ)
header = codes "node" ∷ codes "phase" ∷ codes "planned" ∷ codes "actuated" ∷ []

-- the text of bounds: a record for each phase of each node, in the order of the network's file
abbrev pub bounds_text : Net → List ℕ
bounds_text net = records_text (header ∷ flat_map (bound_records net) (range_with_len 0 (length net.node_names)))

-- ---- with a fixed plan

-- a field: how long each red of a phase is under a fixed plan, or that the phase has no row
abbrev pub red_field : Option ℕ → List ℕ
red_field (Some seconds) = decimal seconds
red_field None = codes "marked"

-- the record of the bounds of a phase, with two fields more: the bound under a fixed plan, and how long its reds are under that
abbrev pub fixed_record : Net → PhaseBounds → Result ℕ NoBound → Option ℕ → List (List ℕ)
fixed_record net bounds fixed red =
    node_name_at net bounds.node ∷ decimal bounds.phase ∷ bound_field bounds.planned ∷ bound_field bounds.actuated
    ∷ bound_field fixed ∷ red_field red ∷ []

-- the records of the bounds of a node's phases, with those under a fixed plan
abbrev pub fixed_records : Net → List FixedRow → ℕ → List (List (List ℕ))
fixed_records net rows node =
    map (λ k. fixed_record net (phase_bounds net node k) (fixed_bounds net rows node k) (fixed_red net rows node k))
    (range_with_len 0 (length (plan_at net node)))

-- the header of the text of bounds with a fixed plan
abbrev pub fixed_header : List (List ℕ)
fixed_header = codes "node" ∷ codes "phase" ∷ codes "planned" ∷ codes "actuated" ∷ codes "fixed" ∷ codes "red" ∷ []

-- the text of bounds with a fixed plan: a record for each phase of each node, in the order of the network's file
abbrev pub fixed_bounds_text : Net → List FixedRow → List ℕ
fixed_bounds_text net rows =
    records_text (fixed_header ∷ flat_map (fixed_records net rows) (range_with_len 0 (length net.node_names)))
