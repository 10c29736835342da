-- What the steps of the work make: an inflow, and the runs of a series. No public clause names these.
use Rattle.std.specs.Prelude.{◌≡◌, ℕ, ◌+◌, ◌-◌, ◌<◌, ◌≤◌, ◌⊎◌, Option, Some, None, IfSome, List, length, slice_index, sum, All, ◌==◌, if◌then◌else◌}
use Rattle.net_parts.specs.Limits.{most_sat}
use Rattle.board_model.specs.declared.boards.Heard.{Heard}
use Rattle.phase_plan.specs.Phases.{phase_at}
use Rattle.switch_rules.specs.declared.Head.{Head}
use Rattle.net_parts.specs.Numbers.{Net}
use Rattle.net_parts.specs.Outline.{phase_links_at, plan_at}
use Rattle.road_net.specs.declared.senses.Sensed.{Sensed}
use Rattle.clusters.specs.declared.vehicle_groups.Part.{Part}
use Rattle.clusters.specs.declared.vehicle_groups.Platoon.{Platoon}
use Rattle.clusters.specs.Cuts.{FallsBelow, IsRun, filled, filled_from, first_of, last_of}
use Rattle.clusters.specs.Platoons.{ArePlatoonsBy, most_of, streams_of, together}
use Rattle.clusters.specs.Options.{aged_load_of, span_in_green}

-- from this second on, before `end`, all are empty
abbrev pub IsEmpty : List ℕ → ℕ → ℕ → Type 0
IsEmpty series from end = (k : ℕ) → from ≤ k → k < end → slice_index series k ≡ 0

-- the first second that is not empty, from this one on
pub record IsNext (series : List ℕ) (start x : ℕ) : Type 0 where
  pub from : start ≤ x
  pub there : x < length series
  pub filled : 1 ≤ slice_index series x
  pub before : IsEmpty series start x

-- the seconds before `end`, from the first one on, are a run that ends there
pub record IsRunUpTo (gap rate most : ℕ) (series : List ℕ) (first end : ℕ) : Type 0 where
  pub some : first < end
  pub there : end ≤ length series
  pub run : IsRun gap rate most series (filled_from series first (end - first))
  pub begins : first_of (filled_from series first (end - first)) ≡ first
  pub ends : last_of (filled_from series first (end - first)) + 1 ≡ end

-- the next second after a run that is not empty could not have joined it
abbrev pub IsClosed : ℕ → ℕ → ℕ → List ℕ → ℕ → ℕ → Type 0
IsClosed gap rate most series first end = (x : ℕ) → IsNext series end x
    → (end + gap < x) ⊎ (first + most < x + 1) ⊎ FallsBelow rate series (filled_from series first (end - first)) x

-- how many seconds a run may span that begins in second x: `most`, or as many as stand beside that second
abbrev pub span_at : Option (ℕ × ℕ) → ℕ → ℕ → ℕ
span_at None most x = most
span_at (Some first) most x = if x == first.0 then first.1 else most

-- each run may span a second at least, and 240 at most
abbrev pub AreSpans : Option (ℕ × ℕ) → ℕ → Type 0
AreSpans first most = (x : ℕ) → (1 ≤ span_at first most x) × (span_at first most x ≤ 240)

-- how many seconds a run may span that begins in second x, where the first run, if a head is given, is to end in the green of that head
abbrev pub span_with : Option Head → ℕ → ℕ → ℕ → List ℕ → ℕ → ℕ
span_with None greatest most now series x = most
span_with (Some head) greatest most now series x =
    if x == first_of (filled series) then span_in_green greatest most head (now + x) else most

-- an age and a hold of a network
abbrev pub IsAge : Option ℕ → Type 0
IsAge age = IfSome age (λ a. (1 ≤ a) × (a ≤ 3600))

abbrev pub IsHold : Option ℕ → Type 0
IsHold hold = IfSome hold (λ h. (1 ≤ h) × (h ≤ 20))

-- the platoons of a phase with this age, with this rate, and with this head to split for
abbrev pub ArePlatoonsAsked : Option ℕ → ℕ → Option Head → Net → ℕ → ℕ → Sensed → List Heard → List Platoon → Type 0
ArePlatoonsAsked age rate split net node phase sensed heard =
    ArePlatoonsBy (aged_load_of age net sensed) net.run.gap rate
    (span_with split (phase_at (plan_at net node) phase).greatest (most_of net node phase) sensed.now
    (together (streams_of net sensed heard (phase_links_at net node phase)) net.run.look))
    sensed.now net.run.look (streams_of net sensed heard (phase_links_at net node phase))

-- streams of links of the network
abbrev pub AreOfLinks : Net → List Part → Type 0
AreOfLinks net streams = All (λ s. s.link < length net.link_names) streams

-- at most 16 streams of `look` seconds, none of which brings more than 5000 in one
pub record AreStreams (look : ℕ) (streams : List Part) : Type 0 where
  pub few : length streams ≤ 16
  pub long : All (λ s. length s.amounts ≡ look) streams
  pub small : All (λ s. All (λ amount. amount ≤ most_sat) s.amounts) streams

-- what is seen of `look` seconds: of each as long as it takes to travel the link, the queue counting in the first; and then nothing
pub record IsSeen (look travel queue : ℕ) (coming : List ℕ) (amounts : List ℕ) : Type 0 where
  pub count : length amounts ≡ look
  pub near : (k : ℕ) → k < look → k < travel
      → slice_index amounts k ≡ (if k == 0 then queue else 0) + slice_index coming k
  pub far : (k : ℕ) → travel ≤ k → slice_index amounts k ≡ 0
  pub total : sum amounts ≤ queue + sum coming
