use Rattle.net_tables.proofs.PartLaws.{link-by_fields}
use Rattle.net_tables.proofs.forms.link_form.Goals as goal

pub returns : goal.returns
returns c = rw (link-by_fields c.args.version _ _ _ c.in_ok-as_table.ensures c.in_ok-only_link_keys.ensures) c.link_fields.ensures
