-- The platoons of a node: the vehicles that it expects, phase by phase, gathered into clusters.
use Rattle.std.specs.Prelude.{◌≡◌, ℕ, ◌+◌, ◌-◌, ◌*◌, ◌<◌, List, [], length, map, slice_index, slice_index_or, sum, sum_by}
use Rattle.std.specs.List.{range_with_len}
use Rattle.board_model.specs.declared.boards.Heard.{Heard}
use Rattle.phase_plan.specs.Phases.{phase_at}
use Rattle.net_parts.specs.Numbers.{Net}
use Rattle.net_parts.specs.Outline.{link_at, phase_links_at, plan_at}
use Rattle.road_net.specs.declared.senses.Sensed.{Sensed}
use Rattle.clusters.specs.declared.vehicle_groups.Part.{Part}
use Rattle.clusters.specs.declared.vehicle_groups.Platoon.{Platoon}
use Rattle.clusters.specs.Cuts.{IsCutBy, first_of, last_of}
use Rattle.clusters.specs.Inflow.{leaving}
pub use Rattle.clusters.specs.Streams.{part_of}

-- the streams of these links, in their order: each is the number of the link with what leaves it in each second that a planning
-- looks ahead, in thousandths of a vehicle, if it is green throughout
abbrev pub streams_of : Net → Sensed → List Heard → List ℕ → List Part
streams_of net sensed heard links = map (λ l. record { link = l; amounts = leaving net sensed heard l }) links

-- what streams bring together, in each of the first `look` seconds
unfoldable pub together : List Part → ℕ → List ℕ
together streams look = map (λ x. sum_by (λ s. slice_index s.amounts x) streams) (range_with_len 0 look)

-- all amounts of these parts
abbrev pub whole_of : List Part → ℕ
whole_of parts = sum_by (λ part. sum part.amounts) parts

-- what a part counts: its amounts by the weight of its link
abbrev pub load_of : Net → Part → ℕ
load_of net part = (link_at net part.link).weight * sum part.amounts

-- the platoon from this second on, before the second `end`: a part of each stream, their sum as its size, and what they count
-- as its load
abbrev pub platoon_within : (Part → ℕ) → ℕ → List Part → ℕ → ℕ → Platoon
platoon_within load now streams first end =
    let parts = map (part_of first end) streams in
    record {
      cluster = record { size = whole_of parts; load = sum_by load parts; arr = now + first; len = end - first };
      parts = parts;
    }

-- the platoon of a run
abbrev pub platoon_of : (Part → ℕ) → ℕ → List Part → List ℕ → Platoon
platoon_of load now streams run = platoon_within load now streams (first_of run) (last_of run + 1)

-- The platoons of a phase, by what its streams bring together in each of `look` seconds from second `now` on. This is cut into runs
-- of seconds, with at most `gap` empty ones between neighbours of a run, at least `rate` thousandths of the greatest amount before it
-- in each later second, and at most `span x` seconds in one that begins in second x from `now`; each run makes a platoon. `load part`
-- is what a part of a platoon counts in its load.
pub record ArePlatoonsBy (load : Part → ℕ) (gap rate : ℕ) (span : ℕ → ℕ) (now look : ℕ) (streams : List Part)
    (platoons : List Platoon) : Type 0 where
  pub runs : List (List ℕ)
  pub cut : IsCutBy gap rate span (together streams look) runs
  pub each : platoons ≡ map (platoon_of load now streams) runs

-- the platoons of a phase, as `ArePlatoonsBy` has them, with one span for all runs, whatever comes in a second
abbrev pub ArePlatoons : (Part → ℕ) → ℕ → ℕ → ℕ → ℕ → List Part → List Platoon → Type 0
ArePlatoons load gap most = ArePlatoonsBy load gap 0 (λ first. most)

-- the platoons of phase k
abbrev pub platoons_at : List (List Platoon) → ℕ → List Platoon
platoons_at lists k = slice_index_or lists k []

-- the longest span of a phase's platoons: what its greatest green leaves after the start-up loss
abbrev pub most_of : Net → ℕ → ℕ → ℕ
most_of net node k = (phase_at (plan_at net node) k).greatest - (phase_at (plan_at net node) k).loss

-- the platoons of a node, phase by phase, by what it senses and what it has heard
pub record ArePlatoonsOf (net : Net) (node : ℕ) (sensed : Sensed) (heard : List Heard)
    (lists : List (List Platoon)) : Type 0 where
  pub count : length lists ≡ length (plan_at net node)
  pub each : (k : ℕ) → k < length lists
      → ArePlatoons (load_of net) net.run.gap (most_of net node k) sensed.now net.run.look
      (streams_of net sensed heard (phase_links_at net node k)) (platoons_at lists k)
