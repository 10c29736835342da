-- The codes of faults of a fixed plan.
use Rattle.std.specs.Prelude.{ℕ, List, [], ◌++◌, codes}
use Rattle.std.specs.Fmt.{decimal}
use Rattle.fixed_plans.specs.declared.faults.FixedFault.{FixedFault}
use Rattle.fixed_plans.specs.declared.faults.FixedFault.TheVariants as fixed

-- the code of a fault of a fixed plan: the header, the first row at fault, from 1, or that it ends too early; `NoMemory` has none
abbrev pub fixed_code : FixedFault → List ℕ
fixed_code fixed.NoMemory = []
fixed_code fixed.Header = codes "header"
fixed_code (fixed.Row n) = codes "row " ++ decimal n
fixed_code (fixed.Node n) = codes "node " ++ decimal n
fixed_code (fixed.Phase n) = codes "phase " ++ decimal n
fixed_code (fixed.Green n) = codes "green " ++ decimal n
fixed_code (fixed.Offset n) = codes "offset " ++ decimal n
fixed_code fixed.Short = codes "short"
