use Rattle.std.proofs.Common.{take}
use Rattle.toml.specs.View.{items_view}
use Rattle.net_file.specs.Written.{AreItemsOf}
use Rattle.net_file.proofs.tables.tables_of.Given as goal

-- the values are those of the elements so far
abbrev pub invariant-loop-element : goal.invariant-loop-element
invariant-loop-element g l = AreItemsOf g.T.Element.reading g.T.Element.says g.T.Element.deep (items_view l.values.items) (take l.element-index l.elements)
