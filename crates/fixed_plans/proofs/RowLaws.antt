-- Rows of a fixed plan, one after another.
use Rattle.std.proofs.Common.{◌≡◌, ℕ, ◌+◌, ◌*◌, ◌<◌, ◌≤◌, List, [], ◌∷◌, ◌++◌, length, Option, None, Some, IfSome, refl, inl, inr, arith}
use Rattle.net_parts.specs.Limits.{most_nodes}
use Rattle.net_parts.specs.Numbers.{Net}
use Rattle.net_parts.specs.Outline.{plan_at}
use Rattle.fixed_plans.specs.declared.rows.Before.{Before}
use Rattle.fixed_plans.specs.declared.rows.FixedRow.{FixedRow}
use Rattle.fixed_plans.specs.Rows.{AreRowsAfter, ComesNext, IsRow, as_before, last_of}
use Rattle.fixed_plans.specs.Readers.{IsPlaced}

-- one row more
pub rows-more : (net : Net) (before : Option Before) (rows : List FixedRow) (r : FixedRow) → AreRowsAfter net before rows → IsRow net (last_of before rows) r → AreRowsAfter net before (rows ++ r ∷ [])
rows-more net before [] r are is = (is, tt)
rows-more net before (x ∷ rows) r are is = (are.0, rows-more net (Some (as_before before x)) rows r are.1 is)

pub last-more : (before : Option Before) (rows : List FixedRow) (r : FixedRow) → last_of before (rows ++ r ∷ []) ≡ Some (as_before (last_of before rows) r)
last-more before [] r = refl
last-more before (x ∷ rows) r = last-more (Some (as_before before x)) rows r

-- each row is lawful after those before it
pub row-amid : (net : Net) (before : Option Before) (front : List FixedRow) (r : FixedRow) (back : List FixedRow) → AreRowsAfter net before (front ++ r ∷ back) → IsRow net (last_of before front) r
row-amid net before [] r back are = are.0
row-amid net before (x ∷ front) r back are = row-amid net (Some (as_before before x)) front r back are.1

-- what comes next is of a phase that there is
pub phase-exists : (net : Net) (before : Option Before) (r : FixedRow) → ComesNext net before r → r.phase < length (plan_at net r.node)
phase-exists net None r next = next.1.exists
phase-exists net (Some b) r (inl next) = next.1.exists
phase-exists net (Some b) r (inr next) = next.2.exists

-- the last row is one of the network
pub last-placed : (net : Net) (before : Option Before) (rows : List FixedRow) → IfSome before (IsPlaced net) → AreRowsAfter net before rows → IfSome (last_of before rows) (IsPlaced net)
last-placed net before [] placed are = placed
last-placed net before (r ∷ rows) placed are = last-placed net (Some (as_before before r)) rows (record { node = are.0.node; phase = phase-exists net before r are.0.next }) are.1

-- how many phases of all nodes there are up to a row, where each node has four
abbrev pub passed_by : Option Before → ℕ
passed_by None = 0
passed_by (Some b) = b.row.node * 4 + b.row.phase + 1

-- the rows are no more than the phases that they pass
module _ (net : Net) (phases : (node : ℕ) → node < length net.node_names → length (plan_at net node) ≤ 4) where
  one-passed : (before : Option Before) (r : FixedRow) → IfSome before (IsPlaced net) → ComesNext net before r → passed_by before + 1 ≤ passed_by (Some (as_before before r))
  one-passed None r placed next = omega arith
  one-passed (Some b) r placed (inl next) = omega (arith, next.0, next.1.later)
  one-passed (Some b) r placed (inr next) = omega (arith, next.0, placed.phase, phases b.row.node placed.node)

  all-passed : (before : Option Before) (rows : List FixedRow) → IfSome before (IsPlaced net) → AreRowsAfter net before rows → passed_by before + length rows ≤ passed_by (last_of before rows)
  all-passed before [] placed are = omega arith
  all-passed before (r ∷ rows) placed are =
      let here = one-passed before r placed are.0.next in
      let rest = all-passed (Some (as_before before r)) rows (record { node = are.0.node; phase = phase-exists net before r are.0.next }) are.1 in
      omega (arith, here, rest)

  last-passed : (before : Option Before) → length net.node_names ≤ most_nodes → IfSome before (IsPlaced net) → passed_by before ≤ 4 * most_nodes
  last-passed None few placed = omega arith
  last-passed (Some b) few placed = omega (arith, few, placed.node, placed.phase, phases b.row.node placed.node)

  -- lawful rows are few
  pub rows-few : length net.node_names ≤ most_nodes → (rows : List FixedRow) → AreRowsAfter net None rows → length rows ≤ 4 * most_nodes
  rows-few few rows are = omega (arith, all-passed None rows tt are, last-passed (last_of None rows) few (last-placed net None rows tt are))
