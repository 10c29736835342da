use Rattle.record_text.proofs.NameLaws.{no-number}
use Rattle.record_text.proofs.names.node_named.Goals as goal

pub returns-in-Err : goal.returns-in-Err
returns-in-Err c = no-number c.args.net.now.node_names c.args.name.now c.requires.outline.node_names c.in-Err.ensures.cases.0
