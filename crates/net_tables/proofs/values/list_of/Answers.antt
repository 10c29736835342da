use Rattle.net_tables.proofs.Views.{list_of-items_view}
use Rattle.net_tables.proofs.values.list_of.Goals as goal

pub returns : goal.returns
returns c = rw (← c.in_ok-values.ensures, list_of-items_view, c.as_slice.ensures.value)
