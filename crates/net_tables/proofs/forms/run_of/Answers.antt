use Rattle.std.proofs.Common.{◌∙◌, sym}
use Rattle.net_tables.proofs.PartLaws.{run-by_fields}
use Rattle.net_tables.proofs.forms.run_of.Goals as goal

pub returns : goal.returns
returns c = c.run_fields.ensures ∙ sym (run-by_fields _ _ c.in_ok-only_run_keys.ensures)
