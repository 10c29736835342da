use Rattle.std.proofs.Common.{arith}
use Rattle.net_parts.proofs.OutlineLaws.{known-most}
use Rattle.round_decisions.proofs.WritableLaws.{decision-of}
use Rattle.round_jobs.proofs.decide.decided_text.Goals as goal

pub decision_text-requires : goal.decision_text-requires
decision_text-requires c = record { round = omega (arith, c.requires.round, known-most c.args.net.now c.law_of_network.ensures.outline); decision = decision-of c.args.net.now c.law_of_network.ensures c.args.state c.requires c.in_ok-decision.decision c.in_ok-decision.ensures }

pub returns : goal.returns
returns c = record { decision = c.in_ok-decision.decision; kept = c.in_ok-decision.ensures; text = c.in_ok-text.ensures }
