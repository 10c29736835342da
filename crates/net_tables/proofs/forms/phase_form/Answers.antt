use Rattle.net_tables.proofs.PartLaws.{phase-by_fields}
use Rattle.net_tables.proofs.forms.phase_form.Goals as goal

pub returns : goal.returns
returns c = rw (phase-by_fields c.args.version _ _ _ c.in_ok-as_table.ensures c.in_ok-only_phase_keys.ensures) c.phase_fields.ensures
