use Rattle.net_file.proofs.ItemLaws.{items-more}
use Rattle.net_file.proofs.tables.tables_of.Goals as goal

pub loop-element-preserved : goal.loop-element-preserved
loop-element-preserved g c =
    rw c.in_ok-push.ensures.items (items-more g.T.Element.reading g.T.Element.says g.T.Element.deep c.loop-element.values.items c.in_ok-table_of.field-0 c.args.elements.now c.loop-element.element-index c.element-item.result c.loop-element-test.true c.element-item.is c.loop-element.invariant c.in_ok-table_of.ensures)
