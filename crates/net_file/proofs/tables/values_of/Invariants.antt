use Rattle.std.proofs.Common.{take}
use Rattle.toml.specs.View.{items_view}
use Rattle.net_file.specs.Written.{AreItemsOf, Always, text_in}
use Rattle.net_file.proofs.tables.values_of.Given as goal

-- the values are those of the texts so far
abbrev pub invariant-loop-text : goal.invariant-loop-text
invariant-loop-text l = AreItemsOf text_in Always 0 (items_view l.values.items) (take l.text-index l.texts)
