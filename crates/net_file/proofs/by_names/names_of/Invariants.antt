use Rattle.std.proofs.Common.{◌≡◌, map, take}
use Rattle.net_file.specs.ByNames.{name_in}
use Rattle.net_file.proofs.by_names.names_of.Given as goal

-- the texts are the names of the numbers so far
abbrev pub invariant-loop-number : goal.invariant-loop-number
invariant-loop-number l = l.texts.items ≡ map (name_in l.names) (take l.number-index l.numbers)
