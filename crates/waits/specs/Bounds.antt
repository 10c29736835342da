-- The bounds of the phases of a network.
use Rattle.std.specs.Prelude.{ℕ, ◌+◌, List, Option, Some, Result, length, map, unwrap_or}
use Rattle.std.specs.List.{flat_map, range_with_len}
use Rattle.std.specs.Option.{option_map}
use Rattle.net_parts.specs.Numbers.{Net}
use Rattle.net_parts.specs.Outline.{plan_at}
use Rattle.waits.specs.Discharges.{intergreens_of, wait_bound}
use Rattle.waits.specs.declared.bounds.NoBound.{NoBound}
use Rattle.waits.specs.declared.bounds.PhaseBounds.{PhaseBounds}

-- no round in which a phase is recalled begins later after the begin of a queue: `recall` is at most 3600, and a step 30
abbrev pub most_until : ℕ
most_until = 3630

-- within how many seconds of the begin of a queue a round begins in which its phase is recalled: the queue has stood for `recall`, and
-- a round is no longer than a step; none where the network has no `recall`
abbrev pub until_recalled : Net → Option ℕ
until_recalled net = option_map (λ recall. recall + net.run.step) net.run.recall

-- the seconds of a round of actuated control: `act_step`, or the step where the network has none; a queue calls in each of them
abbrev pub until_called : Net → ℕ
until_called net = unwrap_or net.run.act_step net.run.step

-- within how many seconds each queue of a link of phase k of a node, one without a walk, loses something, where the nodes plan and look
-- so far ahead
abbrev pub planned_bounds : Net → ℕ → ℕ → Result ℕ NoBound
planned_bounds net node k = wait_bound (plan_at net node) (intergreens_of net net.run.look node) (until_recalled net) k

-- within how many seconds each queue of a link of phase k of a node, one without a walk, loses something under actuated control, where
-- each intergreen is yellow and all-red alone
abbrev pub actuated_bounds : Net → ℕ → ℕ → Result ℕ NoBound
actuated_bounds net node k = wait_bound (plan_at net node) (intergreens_of net 0 node) (Some (until_called net)) k

-- the bounds of a phase of a node: where the nodes plan, and under actuated control
abbrev pub phase_bounds : Net → ℕ → ℕ → PhaseBounds
phase_bounds net node k =
    record { node = node; phase = k; planned = planned_bounds net node k; actuated = actuated_bounds net node k }

-- the bounds of the phases of a node
abbrev pub node_bounds : Net → ℕ → List PhaseBounds
node_bounds net node = map (phase_bounds net node) (range_with_len 0 (length (plan_at net node)))

-- the bounds of all phases of a network, by node and phase
abbrev pub network_bounds : Net → List PhaseBounds
network_bounds net = flat_map (node_bounds net) (range_with_len 0 (length net.node_names))
