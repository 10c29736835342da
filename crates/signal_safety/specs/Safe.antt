-- When the signals of a network are safe, by what they show second by second.
use Rattle.std.specs.Prelude.{ℕ, ◌+◌, ◌<◌, ◌≤◌, Bool, false, IsTrue, List, All}
use Rattle.std.specs.Option.{option_map_or}
use Rattle.control_flow.specs.Signs.{is_on_in, sign_at}
use Rattle.control_flow.specs.declared.greens.Green.{Green}
use Rattle.control_flow.specs.declared.greens.Sign.{Sign}
use Rattle.control_flow.specs.declared.greens.Sign.TheVariants as signs
use Rattle.net_parts.specs.Numbers.{Net}
use Rattle.net_parts.specs.Outline.{cross_at, is_green_in, link_at, plan_at, walk_at}
use Rattle.phase_plan.specs.Phases.{phase_at}
use Rattle.phase_plan.specs.declared.Phase.{Phase}

-- whether a link is green in a second, by the sign that the node at its end shows then; `lines node` is the timeline of a node
abbrev pub is_green_at : Net → (ℕ → List Green) → ℕ → ℕ → Bool
is_green_at net lines link second =
    option_map_or (λ node. is_on_in (is_green_in net link) (walk_at net link) second (sign_at (lines node) second))
    (link_at net link).to false

-- the yellow and all-red that follow the greens of a sign: those of the phase that is on, or to which a change leads; 0 where nothing
-- is shown
abbrev pub clearance_after : List Phase → Sign → ℕ
clearance_after plan (signs.On phase since) = (phase_at plan phase).yellow + (phase_at plan phase).clear
clearance_after plan (signs.Change from to) = (phase_at plan to).yellow + (phase_at plan to).clear
clearance_after plan signs.Dark = 0

-- the yellow and all-red that follow the greens of the sign that the node at a link's end shows in a second; 0 where it ends at none
abbrev pub clearance_at : Net → (ℕ → List Green) → ℕ → ℕ → ℕ
clearance_at net lines link second =
    option_map_or (λ node. clearance_after (plan_at net node) (sign_at (lines node) second)) (link_at net link).to 0

-- Where link `a` is green in a second and link `b` in a later one, the yellow and all-red that follow the sign of the first second
-- lie between the two, and where `a` has a walk the seconds that who has entered it needs to be over as well; a link with a walk is
-- green here in the seconds of the walk alone. `lines node` is the timeline of a node.
abbrev pub BeginsAfter : Net → (ℕ → List Green) → ℕ → ℕ → Type 0
BeginsAfter net lines a b =
    (early late : ℕ) → early < late → IsTrue (is_green_at net lines a early) → IsTrue (is_green_at net lines b late)
    → early + 1 + clearance_at net lines a early + cross_at net a ≤ late

-- Two links are safe from each other: in no second are both green, and each is green only after yellow and all-red of every earlier
-- second in which the other was, and after the seconds that who has entered a walk then needs to be over; a link with a walk is green
-- here in the seconds of the walk alone.
pub record AreSafe (net : Net) (lines : ℕ → List Green) (pair : ℕ × ℕ) : Type 0 where
  pub never : (second : ℕ) → IsTrue (is_green_at net lines pair.0 second) → IsTrue (is_green_at net lines pair.1 second)
      → ⊥
  pub first : BeginsAfter net lines pair.0 pair.1
  pub second : BeginsAfter net lines pair.1 pair.0

-- The signals are safe under these timelines, `lines node` for each node: the two links of each conflict of the network are safe
-- from each other.
abbrev pub IsSafe : Net → (ℕ → List Green) → Type 0
IsSafe net lines = All (AreSafe net lines) net.conflicts
