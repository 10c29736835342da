-- What the steps of the code answer, and what they keep. No public clause names these definitions.
use Rattle.std.specs.Prelude.{◌≡◌, ℕ, ◌⊎◌, List, Option, None, Some, Result, Ok, Err, IsSome, IfSome, IsSomeAnd, All, length, map, unwrap_or, slice_index_or, slice_set}
use Rattle.foundation.specs.Options.{each}
use Rattle.net_parts.specs.Numbers.{Net, number_of}
use Rattle.spillback_world.specs.declared.store_reader.StoreReader.{StoreReader}
use Rattle.spillback_world.specs.declared.store_reader.StoreRow.{StoreRow}
use Rattle.spillback_world.specs.declared.store_faults.StoreFault.{StoreFault}
use Rattle.spillback_world.specs.declared.store_faults.StoreFault.TheVariants.{Row, Link, Bound, Twice}
use Rattle.spillback_world.specs.StoreRecords.{parse, parse_in}
use Rattle.spillback_world.specs.StoreRows.{AreRows, IsStorage, most_of_link, storage_in}
use Rattle.spillback_world.specs.StoreTexts.{IsAtBound}

-- each storage that there is is one
abbrev pub AreStorages : List (Option ℕ) → Type 0
AreStorages storages = All (λ o. IfSome o IsStorage) storages

-- the storages with the most where there is none
abbrev pub storages_of : List (Option ℕ) → List ℕ
storages_of storages = map (λ o. unwrap_or o most_of_link) storages

-- the storage of a link, where there is one
abbrev pub storage_at : List (Option ℕ) → ℕ → Option ℕ
storage_at storages link = slice_index_or storages link None

-- the storage of the row was written, where it is one and its link had none; else the row's first fault
abbrev pub Adds : StoreRow → ℕ → List (Option ℕ) → List (Option ℕ) → Result (Unit {0}) StoreFault → Type 0
Adds r number old new (Ok _) =
    IsStorage r.storage × (storage_at old r.link ≡ None) × (new ≡ slice_set old r.link (Some r.storage))
Adds r number old new (Err (Bound n)) = (n ≡ number) × IsAtBound r
Adds r number old new (Err (Twice n)) = (n ≡ number) × IsStorage r.storage × IsSome (storage_at old r.link)
Adds r number old new (Err _) = ⊥

-- the row of a record; else the record tells none, or its name is no link's
abbrev pub Reads : Net → List (List ℕ) → ℕ → Result StoreRow StoreFault → Type 0
Reads net fields number (Ok r) = parse_in net fields ≡ Some r
Reads net fields number (Err (Row n)) = (n ≡ number) × (parse fields ≡ None)
Reads net fields number (Err (Link n)) =
    (n ≡ number) × IsSomeAnd (parse fields) (λ t. number_of net.link_names t.name ≡ None)
Reads net fields number (Err _) = ⊥

-- the storages are those of these rows
pub record AreStoragesOf (net : Net) (rows : List StoreRow) (storages : List (Option ℕ)) : Type 0 where
  pub lawful : AreRows net rows
  pub links : length storages ≡ length net.link_names
  pub are : (l : ℕ) → storage_at storages l ≡ storage_in rows l

-- the storages are those of the rows that these records tell
pub record AreRead (net : Net) (records : List (List (List ℕ))) (storages : List (Option ℕ)) : Type 0 where
  pub rows : List StoreRow
  pub reads : each (parse_in net) records ≡ Some rows
  pub of_rows : AreStoragesOf net rows storages

-- the record with this number tells no row, or its row cannot be added to the storages
abbrev pub IsRecordFault : Net → List (Option ℕ) → List (List ℕ) → ℕ → StoreFault → Type 0
IsRecordFault net storages fields number fault =
    Reads net fields number (Err fault)
    ⊎ ((r : StoreRow) × (parse_in net fields ≡ Some r) × (new : List (Option ℕ))
    × Adds r number storages new (Err fault))

-- the reader of a store has the storages of the rows that these records tell
abbrev pub HasRead : Net → List (List (List ℕ)) → StoreReader → Type 0
HasRead net records reader = AreRead net records reader.storages.items

-- after what the reader of a store has, the record with this number tells no row, or its row cannot be added
abbrev pub IsFaultAt : Net → StoreReader → List (List ℕ) → ℕ → StoreFault → Type 0
IsFaultAt net reader fields number fault = IsRecordFault net reader.storages.items fields number fault
