-- What a network may ask of the platoons of its nodes beside the rules: `split`, `age`, `hold` and `rate`.
use Rattle.std.specs.Prelude.{◌≡◌, ℕ, ◌+◌, ◌-◌, ◌*◌, ◌/◌, ◌<◌, ◌==◌, ◌&&◌, min, max, nat_lt, nat_le, if◌then◌else◌, false, List, [], ◌∷◌, Option, Some, None, length, sum_by, unwrap_or}
use Rattle.board_model.specs.declared.boards.Heard.{Heard}
use Rattle.phase_plan.specs.Phases.{phase_at}
use Rattle.switch_rules.specs.Bounds.{greatest_weight}
use Rattle.switch_rules.specs.declared.Head.{Head}
use Rattle.net_parts.specs.Numbers.{Net}
use Rattle.net_parts.specs.Outline.{link_at, phase_links_at, plan_at}
use Rattle.road_net.specs.declared.senses.Sensed.{Sensed}
use Rattle.clusters.specs.declared.vehicle_groups.Part.{Part}
use Rattle.clusters.specs.declared.vehicle_groups.Platoon.{Platoon}
use Rattle.clusters.specs.Cuts.{filled, first_of}
use Rattle.clusters.specs.Inflow.{sense_of}
use Rattle.clusters.specs.Platoons.{ArePlatoonsBy, most_of, platoons_at, streams_of, together}

-- How many seconds a cluster of the standing phase may span, by its arrival: where the green still stands as the cluster can
-- start, the cluster ends in it.
abbrev pub span_in_green : ℕ → ℕ → Head → ℕ → ℕ
span_in_green greatest most head arr =
    if nat_lt (max arr head.at) (head.since + greatest) then min most (head.since + greatest - max arr head.at)
    else most

-- how many seconds a run of phase k may span that begins in second x from now: with `split` the first run of the head's phase is
-- to end in the standing green
abbrev pub span_of : Net → ℕ → Head → ℕ → ℕ → List ℕ → ℕ → ℕ
span_of net node head now k series x =
    if net.run.split && (k == head.phase) && (x == first_of (filled series))
    then span_in_green (phase_at (plan_at net node) k).greatest (most_of net node k) head (now + x)
    else most_of net node k

-- What an amount counts on a link of this weight whose queue has stood for so long: with an age the weight grows by itself in as
-- many seconds, up to four times itself and never above 20.
abbrev pub amount_load : Option ℕ → ℕ → ℕ → ℕ → ℕ
amount_load None weight stood amount = weight * amount
amount_load (Some age) weight stood amount =
    min (greatest_weight * amount) (amount * weight * (age + min stood (3 * age)) / age)

-- what a part counts
abbrev pub aged_load_of : Option ℕ → Net → Sensed → Part → ℕ
aged_load_of age net sensed part =
    sum_by (amount_load age (link_at net part.link).weight (sense_of sensed part.link).stood) part.amounts

-- the platoon with a load that counts this many times, and at most 20 times its size
abbrev pub with_held_load : ℕ → Platoon → Platoon
with_held_load hold p =
    record {
      cluster = record p.cluster { load = min (greatest_weight * p.cluster.size) (hold * p.cluster.load) };
      parts = p.parts;
    }

-- these platoons, of which the first counts this many times where it has arrived by this second; without a hold as they are
abbrev pub first_with_hold : Option ℕ → ℕ → List Platoon → List Platoon
first_with_hold None at list = list
first_with_hold (Some hold) at [] = []
first_with_hold (Some hold) at (p ∷ ps) = (if nat_le p.cluster.arr at then with_held_load hold p else p) ∷ ps

-- The platoons of phase k, with the load of the first multiplied by the network's `hold`, up to 20 times its size, where its phase
-- is green in the head and it has arrived by the second from which that green is free.
abbrev pub with_hold : Net → Head → ℕ → List Platoon → List Platoon
with_hold net head k list = if k == head.phase then first_with_hold net.run.hold head.at list else list

-- how many thousandths of the greatest amount before it in its run each later second of a run has at least; 0 without a rate
abbrev pub rate_of : Net → ℕ
rate_of net = unwrap_or net.run.rate 0

-- the platoons of phase k that a node with this head expects
pub record AreExpectedIn (net : Net) (node : ℕ) (head : Head) (sensed : Sensed) (k : ℕ) (streams : List Part)
    (platoons : List Platoon) : Type 0 where
  pub plain : List Platoon
  pub are : ArePlatoonsBy (aged_load_of net.run.age net sensed) net.run.gap (rate_of net)
      (span_of net node head sensed.now k (together streams net.run.look)) sensed.now net.run.look streams plain
  pub held : platoons ≡ with_hold net head k plain

-- the platoons that a node with this head expects, phase by phase
pub record AreExpected (net : Net) (node : ℕ) (head : Head) (sensed : Sensed) (heard : List Heard)
    (lists : List (List Platoon)) : Type 0 where
  pub count : length lists ≡ length (plan_at net node)
  pub each : (k : ℕ) → k < length lists
      → AreExpectedIn net node head sensed k (streams_of net sensed heard (phase_links_at net node k))
      (platoons_at lists k)

-- the network asks for none of `split`, `age`, `hold` and `rate`
pub record AsksNothing (net : Net) : Type 0 where
  pub split : net.run.split ≡ false
  pub age : net.run.age ≡ None
  pub hold : net.run.hold ≡ None
  pub rate : net.run.rate ≡ None
