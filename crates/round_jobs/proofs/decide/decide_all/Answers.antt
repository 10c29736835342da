use Rattle.std.proofs.Common.{ap, arith, ◌∙◌}
use Rattle.net_parts.proofs.OutlineLaws.{known-most}
use Rattle.record_text.specs.Records.{records_of}
use Rattle.round_decisions.specs.DecisionTexts.{told_records}
use Rattle.round_decisions.proofs.WritableLaws.{decision-of}
use Rattle.round_jobs.proofs.NextLaws.{told-again}
use Rattle.round_jobs.proofs.decide.decide_all.Goals as goal

pub keep_decision-requires : goal.keep_decision-requires
keep_decision-requires c = record { round = omega (arith, c.requires.round, known-most c.args.net.now c.law_of_network.ensures.outline); decision = decision-of c.args.net.now c.law_of_network.ensures c.args.state c.requires c.in_ok-decision.decision c.in_ok-decision.ensures }

pub decision_text-requires : goal.decision_text-requires
decision_text-requires c = record { round = omega (arith, c.requires.round, known-most c.args.net.now c.law_of_network.ensures.outline); decision = decision-of c.args.net.now c.law_of_network.ensures c.args.state c.requires c.in_ok-decision.decision c.in_ok-decision.ensures }

pub returns : goal.returns
returns c = record {
  text = record { decision = c.in_ok-decision.decision; kept = c.in_ok-decision.ensures; text = c.in_ok-text.ensures };
  records = told_records c.args.net.now c.args.state.round c.in_ok-decision.decision;
  are = ap records_of c.in_ok-text.ensures ∙ told-again c.args.net.now (told_records c.args.net.now c.args.state.round c.in_ok-decision.decision) c.in_ok-kept.kept c.in_ok-kept.ensures;
  kept = c.in_ok-kept.ensures;
}
