-- The reader of a plan: what it has read, and what a row adds to it. No public clause names these definitions.
use Rattle.std.specs.Prelude.{◌≡◌, ℕ, ◌<◌, ◌⊎◌, length, List, [], ◌∷◌, ◌++◌, None, Some, Result, Ok, Err, IsSomeAnd}
use Rattle.foundation.specs.Options.{each}
use Rattle.net_parts.specs.Numbers.{Net, number_of}
use Rattle.net_parts.specs.Outline.{plan_at}
use Rattle.fixed_plans.specs.declared.reader.PlanReader.{PlanReader}
use Rattle.fixed_plans.specs.declared.faults.FixedFault.{FixedFault}
use Rattle.fixed_plans.specs.declared.faults.FixedFault.TheVariants.{NoMemory, Row, Node, Phase, Green, Offset}
use Rattle.fixed_plans.specs.declared.rows.Before.{Before}
use Rattle.fixed_plans.specs.declared.rows.FixedRow.{FixedRow}
use Rattle.fixed_plans.specs.Records.{parse, parse_in}
use Rattle.fixed_plans.specs.Rows.{AreRowsAfter, ComesNext, HasGreen, HasOffset, as_before, last_of}

-- the row before is one of a node and a phase of it
pub record IsPlaced (net : Net) (b : Before) : Type 0 where
  pub node : b.row.node < length net.node_names
  pub phase : b.row.phase < length (plan_at net b.row.node)

-- the row of a record; else the record tells none, or its name is no node's
abbrev pub Reads : Net → List (List ℕ) → ℕ → Result FixedRow FixedFault → Type 0
Reads net fields number (Ok r) = parse_in net fields ≡ Some r
Reads net fields number (Err (Row n)) = (n ≡ number) × (parse fields ≡ None)
Reads net fields number (Err (Node n)) =
    (n ≡ number) × IsSomeAnd (parse fields) (λ t. number_of net.node_names t.name ≡ None)
Reads net fields number (Err _) = ⊥

-- the row was added after the last one, where it is lawful; else its first fault, or out of memory
abbrev pub Adds : Net → FixedRow → ℕ → PlanReader → PlanReader → Result (Unit {0}) FixedFault → Type 0
Adds net r number old new (Ok _) =
    ComesNext net old.last r × HasGreen (plan_at net r.node) r × HasOffset old.last r
    × (new.rows.items ≡ old.rows.items ++ r ∷ []) × (new.last ≡ Some (as_before old.last r))
Adds net r number old new (Err (Phase n)) = (n ≡ number) × ¬ ComesNext net old.last r
Adds net r number old new (Err (Green n)) = (n ≡ number) × ComesNext net old.last r × ¬ HasGreen (plan_at net r.node) r
Adds net r number old new (Err (Offset n)) =
    (n ≡ number) × ComesNext net old.last r × HasGreen (plan_at net r.node) r × ¬ HasOffset old.last r
Adds net r number old new (Err NoMemory) = Unit {0}
Adds net r number old new (Err _) = ⊥

-- the reader has the rows that these records tell, and the last of them
pub record HasRead (net : Net) (records : List (List (List ℕ))) (reader : PlanReader) : Type 0 where
  pub reads : each (parse_in net) records ≡ Some reader.rows.items
  pub lawful : AreRowsAfter net None reader.rows.items
  pub last : reader.last ≡ last_of None reader.rows.items

-- the record with this number tells no row, or its row cannot be added
abbrev pub IsFaultAt : Net → PlanReader → List (List ℕ) → ℕ → FixedFault → Type 0
IsFaultAt net reader fields number fault =
    Reads net fields number (Err fault)
    ⊎ ((r : FixedRow) × (parse_in net fields ≡ Some r) × (new : PlanReader) × Adds net r number reader new (Err fault))
