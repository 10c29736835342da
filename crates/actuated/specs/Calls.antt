-- A controller that holds a green while it is called for, and else lets the ring turn.
use Rattle.std.specs.Prelude.{ℕ, ◌+◌, ◌||◌, nat_lt, not, Bool, if◌then◌else◌, List, length, map, sum_by, take, drop}
use Rattle.std.specs.List.{list_any, range_with_len}
use Rattle.phase_plan.specs.Phases.{phase_at}
use Rattle.phase_plan.specs.declared.Phase.{Phase}
use Rattle.switch_rules.specs.Serving.{earliest_end}
use Rattle.switch_rules.specs.declared.Head.{Head}
use Rattle.clusters.specs.Inflow.{sense_of}
use Rattle.control_flow.specs.Timelines.{calls_for, stops_at, turned}
use Rattle.control_flow.specs.declared.greens.Green.{Green}
use Rattle.net_parts.specs.Numbers.{Net}
use Rattle.net_parts.specs.Outline.{phase_links_at, plan_at}
use Rattle.net_simulator.specs.Senses.{near_of}
use Rattle.road_net.specs.declared.senses.Sensed.{Sensed}

-- what waits at the end of a link, or reaches it now or within `gap` seconds after
abbrev pub amount_near : Sensed → ℕ → ℕ → ℕ
amount_near sensed gap link = near_of (sense_of sensed link) gap

-- what calls for a phase of a node: what is near on its links
abbrev pub calling : Net → ℕ → Sensed → ℕ → ℕ
calling net node sensed k = sum_by (amount_near sensed net.run.gap) (phase_links_at net node k)

-- what calls for each phase of a node, where this is near on each link
abbrev pub calls_by : Net → (ℕ → ℕ) → ℕ → List ℕ
calls_by net near node =
    map (λ k. sum_by near (phase_links_at net node k)) (range_with_len 0 (length (plan_at net node)))

-- whether another phase than this is called
abbrev pub another_calls : List ℕ → ℕ → Bool
another_calls calls s = list_any (nat_lt 0) (take s calls) || list_any (nat_lt 0) (drop (s + 1) calls)

-- whether a green is held: its phase is called, or no other is
abbrev pub is_held : List ℕ → ℕ → Bool
is_held calls s = calls_for calls s || not (another_calls calls s)

-- when the green of a head ends: as late as it may where it is held, and else as soon as it may
abbrev pub held_until : List Phase → Head → List ℕ → ℕ
held_until plan head calls =
    if is_held calls head.phase then head.since + (phase_at plan head.phase).greatest else earliest_end plan head

-- the line from a head: its green, and then the ring turns, stopping at phases that are unmarked or called, or, where no other is, at
-- the next one
abbrev pub act_line : List Phase → Head → List ℕ → ℕ → List Green
act_line plan head calls until = turned plan (stops_at plan calls) head (held_until plan head calls) until
