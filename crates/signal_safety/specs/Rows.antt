-- What safe signals are by the rows of their timelines.
use Rattle.std.specs.Prelude.{ℕ, ◌+◌, ◌≤◌, IsTrue, List, All, Contains, MatchOption, unwrap_or}
use Rattle.control_flow.specs.Greens.{covers}
use Rattle.control_flow.specs.declared.greens.Green.{Green}
use Rattle.net_parts.specs.Numbers.{Net}
use Rattle.net_parts.specs.Outline.{is_green_in, link_at, plan_at}
use Rattle.phase_plan.specs.Phases.{phase_at}
use Rattle.phase_plan.specs.declared.Phase.{Phase}

-- a green of a link: a row of one of its phases in the timeline of the node at its end, where `lines node` is that of a node
pub record IsGreenOf (net : Net) (lines : ℕ → List Green) (link : ℕ) (row : Green) : Type 0 where
  pub ends : MatchOption (link_at net link).to ⊥ (λ node. Contains (lines node) row)
  pub phase : IsTrue (is_green_in net link row.phase)

-- the times of the phase of a row, in the plan of the node where a link ends
abbrev pub times_of : Net → ℕ → Green → Phase
times_of net link row = phase_at (plan_at net (unwrap_or (link_at net link).to 0)) row.phase

-- Where a row of link `b` begins no earlier than one of link `a`, it begins after the end of that one and after the yellow and the
-- all-red that follow it; `lines node` is the timeline of a node.
abbrev pub FollowsRows : Net → (ℕ → List Green) → ℕ → ℕ → Type 0
FollowsRows net lines a b =
    (early late : Green) → IsGreenOf net lines a early → IsGreenOf net lines b late → early.from ≤ late.from
    → early.to + (times_of net a early).yellow + (times_of net a early).clear ≤ late.from

-- The rows of two links are apart: no second is in a row of both, and each row of one begins only after yellow and all-red of every
-- earlier one of the other.
pub record AreRowsApart (net : Net) (lines : ℕ → List Green) (pair : ℕ × ℕ) : Type 0 where
  pub never : (one other : Green) (second : ℕ) → IsGreenOf net lines pair.0 one → IsGreenOf net lines pair.1 other
      → IsTrue (covers one second) → IsTrue (covers other second) → ⊥
  pub first : FollowsRows net lines pair.0 pair.1
  pub second : FollowsRows net lines pair.1 pair.0
