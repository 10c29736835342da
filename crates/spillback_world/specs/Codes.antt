-- The codes of faults of a store.
use Rattle.std.specs.Prelude.{ℕ, List, [], ◌++◌, codes}
use Rattle.std.specs.Fmt.{decimal}
use Rattle.spillback_world.specs.declared.store_faults.StoreFault.{StoreFault}
use Rattle.spillback_world.specs.declared.store_faults.StoreFault.TheVariants as store

-- the code of a fault of a store: the header, or the first row at fault, from 1; `NoMemory` has none
abbrev pub store_code : StoreFault → List ℕ
store_code store.NoMemory = []
store_code store.Header = codes "header"
store_code (store.Row n) = codes "row " ++ decimal n
store_code (store.Link n) = codes "link " ++ decimal n
store_code (store.Bound n) = codes "storage " ++ decimal n
store_code (store.Twice n) = codes "twice " ++ decimal n
