use Rattle.std.proofs.Common.{◌≡◌, ℕ, Vec, Global}
use Rattle.std.proofs.lemmas.Result.{IfOk-weaker}
use Rattle.round_decisions.specs.DecisionTexts.{node_decision_records, node_decision_text}
use Rattle.round_decisions.proofs.DecisionTextLaws.{text-written}
use Rattle.round_decisions.proofs.decision_texts.node_decision_text.Goals as goal

pub returns : goal.returns
returns c =
    let net = c.args.net.now in
    let d = c.args.decision.now in
    IfOk-weaker c.finish.result _ (λ (text : Vec ℕ Global). text.items ≡ node_decision_text net c.args.round c.args.node d)
    (λ text says. says (node_decision_text net c.args.round c.args.node d)
    (text-written c.new.result.items c.start-out.result c.write_node_decision.new.out (node_decision_records net c.args.round c.args.node d) c.new.ensures.items c.start-out.ensures c.in_ok-write_node_decision.ensures))
    c.finish.ensures
