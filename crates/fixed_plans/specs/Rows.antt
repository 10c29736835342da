-- The rows of a fixed plan: which may follow one another, and when they are all.
use Rattle.std.specs.Prelude.{◌≡◌, ℕ, ◌+◌, ◌-◌, ◌<◌, ◌≤◌, ◌⊎◌, ◌==◌, Bool, true, false, not, List, [], ◌∷◌, Option, None, Some, length, All}
use Rattle.std.specs.List.{range_with_len}
use Rattle.phase_plan.specs.Phases.{IsMarkedAt, phase_at}
use Rattle.phase_plan.specs.declared.Phase.{Phase}
use Rattle.net_parts.specs.Numbers.{Net}
use Rattle.net_parts.specs.Outline.{plan_at}
use Rattle.fixed_plans.specs.declared.rows.Before.{Before}
use Rattle.fixed_plans.specs.declared.rows.FixedRow.{FixedRow}

-- the greatest offset
abbrev pub greatest_offset : ℕ
greatest_offset = 17999

-- the phases from this number on, up to the other, are marked
abbrev pub AreMarked : List Phase → ℕ → ℕ → Type 0
AreMarked plan low high = All (IsMarkedAt plan) (range_with_len low (high - low))

-- phase k is one from this number on, and all phases before it, from there, are marked
pub record IsFirstFrom (plan : List Phase) (low k : ℕ) : Type 0 where
  pub later : low ≤ k
  pub exists : k < length plan
  pub passed : AreMarked plan low k

-- A row may be the last of its node: all phases after its own are marked, and it is not the only row. A ring with unmarked phases has two
-- rows or more for them; in a free ring two phases or more have one, whichever they are.
abbrev pub IsLastRow : Net → Before → Type 0
IsLastRow net b =
    (b.first ≡ false) × AreMarked (plan_at net b.row.node) (b.row.phase + 1) (length (plan_at net b.row.node))

-- whether a row is the first of its node, after the row before it
abbrev pub is_first : Option Before → FixedRow → Bool
is_first None r = true
is_first (Some b) r = not (r.node == b.row.node)

-- a row as the one before the next
abbrev pub as_before : Option Before → FixedRow → Before
as_before before r = record { row = r; first = is_first before r }

-- Which row may come next after the row before it: one of the same node, of the next phase up its ring; or, after the last row
-- of that node, the first of the next node. Without a row before it, the first of node 0.
abbrev pub ComesNext : Net → Option Before → FixedRow → Type 0
ComesNext net None r = (r.node ≡ 0) × IsFirstFrom (plan_at net r.node) 0 r.phase
ComesNext net (Some b) r =
    ((r.node ≡ b.row.node) × IsFirstFrom (plan_at net r.node) (b.row.phase + 1) r.phase)
    ⊎ ((r.node ≡ b.row.node + 1) × IsLastRow net b × IsFirstFrom (plan_at net r.node) 0 r.phase)

-- the green of a row is within the bounds of its phase
pub record HasGreen (plan : List Phase) (r : FixedRow) : Type 0 where
  pub least : (phase_at plan r.phase).least ≤ r.green
  pub greatest : r.green ≤ (phase_at plan r.phase).greatest

-- the offset of a row is at most 17,999, and that of the row before it of the same node
abbrev pub HasOffset : Option Before → FixedRow → Type 0
HasOffset None r = r.offset ≤ greatest_offset
HasOffset (Some b) r = (r.offset ≤ greatest_offset) × (r.node ≡ b.row.node → r.offset ≡ b.row.offset)

-- a lawful row after the row before it
pub record IsRow (net : Net) (before : Option Before) (r : FixedRow) : Type 0 where
  pub node : r.node < length net.node_names
  pub next : ComesNext net before r
  pub green : HasGreen (plan_at net r.node) r
  pub offset : HasOffset before r

-- each of these rows is lawful after the one before it, the first after this one
abbrev pub AreRowsAfter : Net → Option Before → List FixedRow → Type 0
AreRowsAfter net before [] = Unit {0}
AreRowsAfter net before (r ∷ rs) = IsRow net before r × AreRowsAfter net (Some (as_before before r)) rs

-- the last of these rows, or this one where there are none
abbrev pub last_of : Option Before → List FixedRow → Option Before
last_of before [] = before
last_of before (r ∷ rs) = last_of (Some (as_before before r)) rs

-- this is the last row of the last node
abbrev pub IsEnd : Net → Option Before → Type 0
IsEnd net None = ⊥
IsEnd net (Some b) = (b.row.node + 1 ≡ length net.node_names) × IsLastRow net b

-- the rows of a fixed plan of a network: each is lawful after the one before it, and the last is the last of the last node
pub record IsFixedPlan (net : Net) (rows : List FixedRow) : Type 0 where
  pub each : AreRowsAfter net None rows
  pub whole : IsEnd net (last_of None rows)

-- these rows are this fixed plan
pub record IsPlanOf (net : Net) (rows plan : List FixedRow) : Type 0 where
  pub same : plan ≡ rows
  pub is : IsFixedPlan net rows
