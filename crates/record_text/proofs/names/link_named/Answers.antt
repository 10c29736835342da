use Rattle.record_text.proofs.NameLaws.{no-number}
use Rattle.record_text.proofs.names.link_named.Goals as goal

pub returns-in-Err : goal.returns-in-Err
returns-in-Err c = no-number c.args.net.now.link_names c.args.name.now c.requires.outline.link_names c.in-Err.ensures.cases.0
