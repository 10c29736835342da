-- The first row at fault.
use Rattle.std.specs.Prelude.{ℕ, ◌+◌, ◌<◌, List, Option, Some, sum_by}
use Rattle.net_parts.specs.Numbers.{Net}
use Rattle.record_text.specs.Faults.{IsFirstFault}
use Rattle.record_text.specs.Forms.{AreReadAs}
use Rattle.arrivals.specs.declared.rows.ArrivalRow.{ArrivalRow}
use Rattle.arrivals.specs.declared.rows.RowFault.{RowFault}
use Rattle.arrivals.specs.declared.rows.RowFault.TheVariants.{NoMemory, Link, Bound, Sum}
use Rattle.net_parts.specs.Limits.{most_of_all}
use Rattle.arrivals.specs.Rows.{IsSource, HasBounds, IsRow, amount_of, AreRows}

-- The element with this number, counted from 1, is the first at fault: those before it are read as rows that are lawful, and
-- `at_fault` holds of these rows and of the element.
abbrev pub IsFirst : {X : Type 0} → (X → Option ArrivalRow) → Net → List X → ℕ → (List ArrivalRow → X → Type 0) → Type 0
IsFirst read net all number at_fault = IsFirstFault (AreReadAs read (AreRows net)) all number at_fault

-- a row whose link is no source
abbrev pub IsAtLink : Net → ArrivalRow → Type 0
IsAtLink net r = ¬ IsSource net r.link

-- a row with a source, that is out of its bounds
abbrev pub IsAtBound : Net → ArrivalRow → Type 0
IsAtBound net r = IsSource net r.link × ¬ HasBounds net r

-- a lawful row with which, after these rows, all bring more than they may
abbrev pub IsAtSum : Net → List ArrivalRow → ArrivalRow → Type 0
IsAtSum net rows r = IsRow net r × (most_of_all < sum_by amount_of rows + r.amount)

-- why rows are no arrivals
abbrev pub IsRowFault : Net → List ArrivalRow → RowFault → Type 0
IsRowFault net rows NoMemory = Unit {0}
IsRowFault net rows (Link n) = IsFirst Some net rows n (λ before r. IsAtLink net r)
IsRowFault net rows (Bound n) = IsFirst Some net rows n (λ before r. IsAtBound net r)
IsRowFault net rows (Sum n) = IsFirst Some net rows n (λ before r. IsAtSum net before r)
IsRowFault net rows _ = ⊥
