-- The codes of faults of arrivals.
use Rattle.std.specs.Prelude.{ℕ, List, [], ◌++◌, codes}
use Rattle.std.specs.Fmt.{decimal}
use Rattle.arrivals.specs.declared.rows.RowFault.{RowFault}
use Rattle.arrivals.specs.declared.rows.RowFault.TheVariants as row

-- the code of a fault of arrivals: the header, or the first row at fault, from 1; `NoMemory` has none
abbrev pub row_code : RowFault → List ℕ
row_code row.NoMemory = []
row_code row.Header = codes "header"
row_code (row.Row n) = codes "row " ++ decimal n
row_code (row.Link n) = codes "link " ++ decimal n
row_code (row.Bound n) = codes "amount " ++ decimal n
row_code (row.Sum n) = codes "sum " ++ decimal n
