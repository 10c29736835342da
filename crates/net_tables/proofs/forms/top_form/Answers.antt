use Rattle.net_tables.proofs.PartLaws.{top-by_fields}
use Rattle.net_tables.proofs.forms.top_form.Goals as goal

pub returns : goal.returns
returns c = rw (top-by_fields _ _ c.in_ok-only_top_keys.ensures) c.top_fields.ensures
