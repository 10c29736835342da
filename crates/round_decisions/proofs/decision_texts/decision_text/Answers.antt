use Rattle.std.proofs.Common.{◌≡◌, ℕ, Vec, Global}
use Rattle.std.proofs.lemmas.Result.{IfOk-weaker}
use Rattle.round_decisions.specs.DecisionTexts.{decision_records, decision_text}
use Rattle.round_decisions.proofs.DecisionTextLaws.{text-written}
use Rattle.round_decisions.proofs.decision_texts.decision_text.Goals as goal

pub returns : goal.returns
returns c =
    let net = c.args.net.now in
    let d = c.args.decision.now in
    IfOk-weaker c.finish.result _ (λ (text : Vec ℕ Global). text.items ≡ decision_text net c.args.round d)
    (λ text says. says (decision_text net c.args.round d)
    (text-written c.new.result.items c.start-out.result c.write_decision.new.out (decision_records net c.args.round d) c.new.ensures.items c.start-out.ensures c.in_ok-write_decision.ensures))
    c.finish.ensures
