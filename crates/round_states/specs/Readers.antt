-- What the steps of the code keep. No public clause names these definitions.
use Rattle.std.specs.Prelude.{◌≡◌, ℕ, ◌<◌, ◌⊎◌, List, [], ◌∷◌, ◌++◌, Option, Some, Result, Ok, Err, Vec, length, map, slice_index_or, slice_set}
use Rattle.std.specs.List.{cons_option}
use Rattle.net_parts.specs.Numbers.{Net}
use Rattle.round_states.specs.declared.entries.Entry.{Entry}
use Rattle.round_states.specs.declared.entries.StateRecord.{StateRecord}
use Rattle.round_states.specs.declared.faults.StateFault.{StateFault}
use Rattle.round_states.specs.declared.asked.Asked.{Asked}
use Rattle.round_states.specs.declared.faults.StateFault.TheVariants.{NoMemory, Row, Name, Time}
use Rattle.round_states.specs.declared.by_place.ByPlace.{ByPlace}
use Rattle.round_states.specs.declared.texts.StateReader.{StateReader}
use Rattle.record_text.specs.Forms.{AreReadAs}
use Rattle.round_states.specs.Faults.{IsAtName, IsAtRow, IsEntryFault}
use Rattle.round_states.specs.Order.{AreInOrder, FitsAfter}
use Rattle.round_states.specs.Texts.{all_said, coming_said, green_said, queue_said, row_said, version_said}
use Rattle.round_states.specs.StateRecords.{parse_in}

-- what a record tells; else it tells nothing, or its name is none of which it can speak
abbrev pub Reads : Net → List (List ℕ) → ℕ → Result Entry StateFault → Type 0
Reads net fields number (Ok e) = parse_in net fields ≡ Some e
Reads net fields number (Err (Row n)) = (n ≡ number) × IsAtRow fields
Reads net fields number (Err (Name n)) = (n ≡ number) × IsAtName net fields
Reads net fields number (Err _) = ⊥

-- what a record tells was added, where it may stand there
abbrev pub Adds : Net → Entry → ℕ → StateReader → StateReader → Result (Unit {0}) StateFault → Type 0
Adds net e number old new (Ok _) = FitsAfter net old.all.items e × (new.all.items ≡ old.all.items ++ e ∷ [])
Adds net e number old new (Err (Time n)) = (n ≡ number) × ¬ FitsAfter net old.all.items e
Adds net e number old new (Err NoMemory) = Unit {0}
Adds net e number old new (Err _) = ⊥

-- these records were read
abbrev pub HasRead : Net → List (List (List ℕ)) → StateReader → Type 0
HasRead net records taker = AreReadAs (parse_in net) (AreInOrder net) records taker.all.items

-- the record with this number tells nothing, or what it tells cannot be added
abbrev pub IsFaultAt : Net → StateReader → List (List ℕ) → ℕ → StateFault → Type 0
IsFaultAt net taker fields number fault =
    Reads net fields number (Err fault)
    ⊎ ((e : Entry) × (parse_in net fields ≡ Some e) × (new : StateReader) × Adds net e number taker new (Err fault))

-- why what records tell, and then those that were told, is no state for these nodes: there is none of the text, so the first that was told
-- would have to say when the round begins; or all stand in order, and what they tell is none
abbrev pub IsFaultWith : Net → Asked → List Entry → List Entry → StateFault → Type 0
IsFaultWith net asked es told (Time n) = (n ≡ 1) × (es ≡ []) × (0 < length told)
IsFaultWith net asked es told NoMemory = Unit {0}
IsFaultWith net asked es told fault = AreInOrder net (es ++ told) × IsEntryFault net asked (es ++ told) fault

-- the elements of each of these lists
abbrev pub lists_of : {X Z : Type 0} → List (Vec X Z) → List (List X)
lists_of all = map (λ list. list.items) all

-- lists once this was said, if something was, of a place
abbrev pub with_said : {X : Type 0} → ℕ → Option X → List (List X) → List (List X)
with_said place content lists = slice_set lists place (slice_index_or lists place [] ++ cons_option content [])

-- of each place below this number there is a list of all that records say of it
pub record HasAllSaid {X Z : Type 0} (of : StateRecord → Option X) (es : List Entry) (count : ℕ)
    (all : List (Vec X Z)) : Type 0 where
  pub count_is : length all ≡ count
  pub each : (place : ℕ) → place < count → slice_index_or (lists_of all) place [] ≡ all_said of es place

-- what records say of each node and link of a network
pub record IsByPlace (net : Net) (es : List Entry) (s : ByPlace) : Type 0 where
  pub greens : HasAllSaid green_said es (length net.node_names) s.greens.items
  pub queues : HasAllSaid queue_said es (length net.link_names) s.queues.items
  pub coming : HasAllSaid coming_said es (length net.link_names) s.coming.items
  pub versions : HasAllSaid version_said es (length net.link_names) s.versions.items
  pub rows : HasAllSaid row_said es (length net.link_names) s.rows.items
