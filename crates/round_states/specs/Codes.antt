-- The codes of faults of a state.
use Rattle.std.specs.Prelude.{ℕ, ◌+◌, List, [], ◌++◌, codes}
use Rattle.std.specs.Fmt.{decimal}
use Rattle.round_states.specs.declared.faults.StateFault.{StateFault}
use Rattle.round_states.specs.declared.faults.StateFault.TheVariants as state

-- the code of a fault of a state: the header, the first row at fault, or a link or node by its number, all from 1; `NoMemory` has
-- none
abbrev pub state_code : StateFault → List ℕ
state_code state.NoMemory = []
state_code state.Header = codes "header"
state_code (state.Row n) = codes "row " ++ decimal n
state_code (state.Name n) = codes "name " ++ decimal n
state_code (state.Time n) = codes "time " ++ decimal n
state_code (state.Sense link) = codes "sense " ++ decimal (link + 1)
state_code (state.Board link) = codes "board " ++ decimal (link + 1)
state_code (state.Line node) = codes "line " ++ decimal (node + 1)
state_code (state.Sum node) = codes "sum " ++ decimal (node + 1)
state_code (state.Stood link) = codes "stood " ++ decimal (link + 1)
state_code (state.Late node) = codes "late " ++ decimal (node + 1)
state_code (state.Told link) = codes "told " ++ decimal (link + 1)
