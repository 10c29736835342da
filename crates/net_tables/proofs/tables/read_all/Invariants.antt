use Rattle.std.proofs.Common.{◌≡◌, Some, take}
use Rattle.toml.specs.View.{view}
use Rattle.foundation.specs.Options.{each}
use Rattle.net_tables.proofs.tables.read_all.Given as goal

-- the elements so far are read
abbrev pub invariant-loop-index : goal.invariant-loop-index
invariant-loop-index g l = each (λ v. g.T.Element.reading l.version (view v)) (take l.index l.values) ≡ Some l.all.items
