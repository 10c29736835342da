use Rattle.std.proofs.Common.{◌∙◌, sym}
use Rattle.net_tables.proofs.PartLaws.{link-third, link-other}
use Rattle.net_tables.proofs.forms.only_link_keys.Goals as goal

pub returns-then-is_third : goal.returns-then-is_third
returns-then-is_third c = rw (link-third c.args.version (sym c.is_third.ensures ∙ c.if-is_third.true)) c.only.ensures

pub returns-else-is_third : goal.returns-else-is_third
returns-else-is_third c = rw (link-other c.args.version (sym c.is_third.ensures ∙ c.if-is_third.false)) c.only-else-is_third.ensures
