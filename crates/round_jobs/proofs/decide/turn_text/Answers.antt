use Rattle.std.proofs.Common.{arith}
use Rattle.net_parts.proofs.OutlineLaws.{known-most}
use Rattle.round_decisions.proofs.WritableLaws.{node-decision-of}
use Rattle.round_jobs.proofs.decide.turn_text.Goals as goal

pub node_decision_text-requires : goal.node_decision_text-requires
node_decision_text-requires c = record { round = omega (arith, c.requires.state.round, known-most c.args.net.now c.law_of_network.ensures.outline); decision = node-decision-of c.args.net.now c.law_of_network.ensures c.args.state c.requires.state c.args.number c.requires.number c.in_ok-decision.decision c.in_ok-decision.ensures }

pub returns : goal.returns
returns c = λ node named. record { number = c.args.number; named = named; decision = c.in_ok-decision.decision; kept = c.in_ok-decision.ensures; text = c.in_ok-text.ensures }
