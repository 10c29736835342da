use Rattle.round_jobs.proofs.GatherLaws.{node-refused}
use Rattle.round_jobs.proofs.answers.one_node.Goals as goal

pub returns-in-Err-clause-refused : goal.returns-in-Err-clause-refused
returns-in-Err-clause-refused c = node-refused c.args.net.now c.args.text.now c.args.name.now c.node_named-node.result c.in-Err.why c.node_named-node.ensures c.in-Err.ensures.refused
