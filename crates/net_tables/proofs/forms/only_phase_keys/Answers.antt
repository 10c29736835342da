use Rattle.std.proofs.Common.{◌∙◌, sym}
use Rattle.net_tables.proofs.PartLaws.{phase-third, phase-other}
use Rattle.net_tables.proofs.forms.only_phase_keys.Goals as goal

pub returns-then-is_third : goal.returns-then-is_third
returns-then-is_third c = rw (phase-third c.args.version (sym c.is_third.ensures ∙ c.if-is_third.true)) c.only.ensures

pub returns-else-is_third : goal.returns-else-is_third
returns-else-is_third c = rw (phase-other c.args.version (sym c.is_third.ensures ∙ c.if-is_third.false)) c.only-else-is_third.ensures
