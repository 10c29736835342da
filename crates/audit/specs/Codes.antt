-- The codes of faults of a sheet.
use Rattle.std.specs.Prelude.{ℕ, List, [], ◌++◌, codes}
use Rattle.std.specs.Fmt.{decimal}
use Rattle.audit.specs.declared.sheet_faults.SheetFault.{SheetFault}
use Rattle.audit.specs.declared.sheet_faults.SheetFault.TheVariants as sheet

-- the code of a fault of a sheet: the header, the first row at fault, from 1, or that it ends too early; `NoMemory` has none
abbrev pub sheet_code : SheetFault → List ℕ
sheet_code sheet.NoMemory = []
sheet_code sheet.Header = codes "header"
sheet_code (sheet.Row n) = codes "row " ++ decimal n
sheet_code (sheet.Extra n) = codes "extra " ++ decimal n
sheet_code (sheet.Name n) = codes "name " ++ decimal n
sheet_code sheet.Short = codes "short"
