-- Rows of a store: how much links can hold.
use Rattle.std.specs.Prelude.{◌≡◌, ◌≢◌, ℕ, ◌<◌, ◌≤◌, ◌==◌, Bool, List, Option, option_map, unwrap_or, length, map, find, slice_index, All, AllPairs}
use Rattle.net_parts.specs.Numbers.{Net}
use Rattle.spillback_world.specs.declared.store_reader.StoreRow.{StoreRow}

-- the most that a link can hold, and what a link holds that no row has
abbrev pub most_of_link : ℕ
most_of_link = 2000000000

-- how much a link can hold
pub record IsStorage (storage : ℕ) : Type 0 where
  pub least : 1 ≤ storage
  pub most : storage ≤ most_of_link

-- a lawful row
pub record IsRow (net : Net) (r : StoreRow) : Type 0 where
  pub exists : r.link < length net.link_names
  pub bounds : IsStorage r.storage

-- the link of a row
abbrev pub link_of : StoreRow → ℕ
link_of r = r.link

-- its storage
abbrev pub storage_of : StoreRow → ℕ
storage_of r = r.storage

-- rows of a store: each is lawful, and no two have one link
pub record AreRows (net : Net) (rows : List StoreRow) : Type 0 where
  pub each : All (IsRow net) rows
  pub once : AllPairs (λ k l. k ≢ l) (map link_of rows)

-- whether a row has this link
abbrev pub has_link : ℕ → StoreRow → Bool
has_link link r = r.link == link

-- the storage of the row that has a link
abbrev pub storage_in : List StoreRow → ℕ → Option ℕ
storage_in rows link = option_map storage_of (find (has_link link) rows)

-- how much a link can hold: the storage of its row, or the most
abbrev pub storage_by : List StoreRow → ℕ → ℕ
storage_by rows link = unwrap_or (storage_in rows link) most_of_link

-- The store of rows: they are lawful, and there is a storage for each link.
pub record IsStoreOf (net : Net) (rows : List StoreRow) (store : List ℕ) : Type 0 where
  pub lawful : AreRows net rows
  pub links : length store ≡ length net.link_names
  pub storages : (l : ℕ) → l < length net.link_names → slice_index store l ≡ storage_by rows l
