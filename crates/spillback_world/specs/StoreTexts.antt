-- Which store a text stands for, and why it stands for none.
use Rattle.std.specs.Prelude.{◌≡◌, ℕ, List, None, IsSomeAnd, Contains, map}
use Rattle.net_parts.specs.Numbers.{Net, number_of}
use Rattle.record_text.specs.Forms.{Form, IsTextOf, IsRefusedFor, Cause, OutOfMemory, NoHeader, AtRecord}
use Rattle.spillback_world.specs.declared.store_reader.StoreRow.{StoreRow}
use Rattle.spillback_world.specs.declared.store_faults.StoreFault.{StoreFault}
use Rattle.spillback_world.specs.declared.store_faults.StoreFault.TheVariants.{NoMemory, Header, Row, Link, Bound, Twice}
use Rattle.spillback_world.specs.StoreRecords.{header, parse, parse_in}
use Rattle.spillback_world.specs.StoreRows.{IsStorage, AreRows, IsStoreOf, link_of}

-- the form of the text: records after the first tell rows, and rows are those of a store
abbrev pub form : Net → Form StoreRow (List ℕ)
form net = record { header = header; read = parse_in net; lawful = AreRows net; is_of = IsStoreOf net }

-- a row whose storage is out of its bounds
abbrev pub IsAtBound : StoreRow → Type 0
IsAtBound r = ¬ IsStorage r.storage

-- a row with a storage, whose link one of these rows has
abbrev pub IsAtTwice : List StoreRow → StoreRow → Type 0
IsAtTwice rows r = IsStorage r.storage × Contains (map link_of rows) r.link

-- what each fault says of a text
abbrev pub cause_of : Net → StoreFault → Cause StoreRow
cause_of net NoMemory = OutOfMemory
cause_of net Header = NoHeader
cause_of net (Row n) = AtRecord n (λ before fields. parse fields ≡ None)
cause_of net (Link n) =
    AtRecord n (λ before fields. IsSomeAnd (parse fields) (λ t. number_of net.link_names t.name ≡ None))
cause_of net (Bound n) = AtRecord n (λ before fields. IsSomeAnd (parse_in net fields) IsAtBound)
cause_of net (Twice n) = AtRecord n (λ before fields. IsSomeAnd (parse_in net fields) (IsAtTwice before))

-- the store of a text
abbrev pub IsStoreText : Net → List ℕ → List ℕ → Type 0
IsStoreText net bytes store = IsTextOf (form net) bytes store

-- the first fault of a text that stands for no store
abbrev pub IsTextFault : Net → List ℕ → StoreFault → Type 0
IsTextFault net bytes fault = IsRefusedFor (form net) bytes (cause_of net fault)
