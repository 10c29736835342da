use Rattle.std.proofs.Common.{◌≡◌, Some, take}
use Rattle.toml.specs.Data.{as_str}
use Rattle.toml.specs.View.{view}
use Rattle.foundation.specs.Options.{each}
use Rattle.net_tables.proofs.tables.texts_of.Given as goal

-- the texts are those of the values so far
abbrev pub invariant-loop-value : goal.invariant-loop-value
invariant-loop-value l = each (λ v. as_str (view v)) (take l.value-index l.values) ≡ Some l.texts.items
